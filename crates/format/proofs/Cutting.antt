-- The two arrays of whole bytes.
use Rattle.std.proofs.Common.{◌≡◌, ℕ, ◌+◌, ◌*◌, ◌/◌, ◌<◌, ◌≤◌, List, length, take, drop, get_or, sym, ap, ◌∙◌, subst, arith, length-drop, length-take}
use Rattle.std.specs.List.{All, concat}
use Rattle.std.specs.Simd.{first_chunks}
use Rattle.std.proofs.lemmas.List.{get_or-take, drop-drop}
use Rattle.format.specs.Layout.{bytes2, count_in, FourBytes}
use Rattle.format.specs.Rows.{Cut}
use Rattle.format.proofs.Bytes.{take_two, bytes2_of}
use Rattle.format.proofs.Chunks.{small_drop, concat_chunks, four_bytes}

-- the number that the first two bytes write
pub count_is : (bytes header : List ℕ) (n : ℕ) → header ≡ take 8 bytes → n ≡ get_or header 0 0 + get_or header 1 0 * 256 → n ≡ count_in bytes
count_is bytes header n is e =
    let low : get_or header 0 0 ≡ get_or bytes 0 0 = ap (λ l. get_or l 0 0) is ∙ get_or-take 8 bytes 0 0 (omega arith) in
    let high : get_or header 1 0 ≡ get_or bytes 1 0 = ap (λ l. get_or l 1 0) is ∙ get_or-take 8 bytes 1 0 (omega arith) in
    e ∙ (λ i. low i + high i * 256)

-- n codes, then as many operands of four bytes
module _ (rows : List ℕ) (n : ℕ) (long : length rows ≡ 5 * n) (back : List ℕ) (is : back ≡ drop n rows) (operands : List (List ℕ)) (chunks : operands ≡ first_chunks 4 (length back / 4) back) (small : (i : ℕ) → get_or rows i 0 < 256) where
  back_long : length back ≡ 4 * n
  back_long = ap length is ∙ length-drop n rows ∙ omega (arith, long)

  chunks_are : operands ≡ first_chunks 4 n back
  chunks_are = chunks ∙ ap (λ k. first_chunks 4 k back) (omega (arith, back_long))

  pub each_four : All FourBytes operands
  each_four = subst (All FourBytes) (sym chunks_are) (four_bytes n back back_long (λ i. rw (is) (small_drop n rows small i)))

  pub concat_is : concat operands ≡ drop n rows
  concat_is = ap concat chunks_are ∙ concat_chunks n back back_long ∙ is

pub cut_of : (bytes rows codes : List ℕ) (operands : List (List ℕ)) (n : ℕ) → 8 ≤ length bytes → get_or bytes 0 0 < 256 → get_or bytes 1 0 < 256 → rows ≡ drop 8 bytes → n ≡ count_in bytes → length rows ≡ 5 * n → codes ≡ take n rows → concat operands ≡ drop n rows → Cut bytes codes (concat operands)
cut_of bytes rows codes operands n headed low high rows_are count long codes_are operands_are =
    let many : length codes ≡ n = ap length codes_are ∙ length-take n rows ∙ omega (arith, long) in
    record {
      whole = record { headed = headed; long = omega (arith, long, count, headed, ap length rows_are, length-drop 8 bytes) };
      count = take_two bytes 0 (omega (arith, headed)) ∙ sym (bytes2_of _ _ low high) ∙ ap bytes2 (sym count ∙ sym many);
      codes_are = codes_are ∙ (λ i. take (count i) (rows_are i));
      operands_are = operands_are ∙ ap (drop n) rows_are ∙ drop-drop n 8 bytes ∙ ap (λ k. drop (8 + k) bytes) count;
    }
