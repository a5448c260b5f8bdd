-- Bytes cut into chunks of four.
use Rattle.std.proofs.Common.{◌≡◌, ℕ, zero, suc, ◌+◌, ◌*◌, ◌<◌, List, [], ◌∷◌, ◌++◌, length, take, drop, get_or, sym, ap, refl, ◌∙◌, arith, length-take, length-drop, length-append}
use Rattle.std.specs.List.{All, concat}
use Rattle.std.specs.Simd.{first_chunks}
use Rattle.std.proofs.lemmas.List.{get_or-drop, take-append-drop}
use Rattle.std.proofs.Math.Seq.{take-append_seam, drop-append-add}
use Rattle.format.specs.declared.layout.Layout.{Layout}
use Rattle.format.specs.Layout.{FourBytes}
use Rattle.format.specs.Rows.{codes_of, operands_of}

rest_of : (xs : List ℕ) (xss : List (List ℕ)) → All FourBytes (xs ∷ xss) → All FourBytes xss
rest_of xs xss all k d lt = all (suc k) d (omega (arith, lt))

-- the chunks of bytes, one after the other, are the bytes
pub concat_chunks : (k : ℕ) (xs : List ℕ) → length xs ≡ 4 * k → concat (first_chunks 4 k xs) ≡ xs
concat_chunks zero [] e = refl
concat_chunks zero (x ∷ xs) e = absurd (omega (arith, e))
concat_chunks (suc k) xs e =
    ap (λ l. take 4 xs ++ l) (concat_chunks k (drop 4 xs) (omega (arith, length-drop 4 xs, e))) ∙ take-append-drop 4 xs

pub small_drop : (n : ℕ) (xs : List ℕ) → ((i : ℕ) → get_or xs i 0 < 256) → (i : ℕ) → get_or (drop n xs) i 0 < 256
small_drop n xs small i = rw (get_or-drop n xs i 0) (small (n + i))

small_take : (n : ℕ) (xs : List ℕ) → ((i : ℕ) → get_or xs i 0 < 256) → (i : ℕ) → get_or (take n xs) i 0 < 256
small_take zero xs small i = omega arith
small_take (suc n) [] small i = omega arith
small_take (suc n) (x ∷ xs) small zero = small 0
small_take (suc n) (x ∷ xs) small (suc i) = small_take n xs (λ k. small (suc k)) i

pub four_bytes : (k : ℕ) (xs : List ℕ) → length xs ≡ 4 * k → ((i : ℕ) → get_or xs i 0 < 256) → All FourBytes (first_chunks 4 k xs)
four_bytes zero xs e small i d lt = absurd (omega (arith, lt))
four_bytes (suc k) xs e small zero d lt = record { four = length-take 4 xs ∙ omega (arith, e); small = small_take 4 xs small }
four_bytes (suc k) xs e small (suc i) d lt =
    four_bytes k (drop 4 xs) (omega (arith, length-drop 4 xs, e)) (small_drop 4 xs small) i d (omega (arith, lt))

length-concat : (xss : List (List ℕ)) → All FourBytes xss → length (concat xss) ≡ 4 * length xss
length-concat [] all = refl
length-concat (xs ∷ xss) all =
    let first = all 0 [] (omega arith) in
    length-append xs (concat xss) ∙ omega (arith, first.four, length-concat xss (rest_of xs xss all))

-- a chunk is four bytes of the whole
pub chunk_at : (xss : List (List ℕ)) → All FourBytes xss → (i : ℕ) (d : List ℕ) → i < length xss → take 4 (drop (4 * i) (concat xss)) ≡ get_or xss i d
chunk_at [] all i d lt = absurd (omega (arith, lt))
chunk_at (xs ∷ xss) all zero d lt =
    let first = all 0 [] (omega arith) in
    ap (λ k. take k (xs ++ concat xss)) (sym first.four) ∙ take-append_seam xs (concat xss)
chunk_at (xs ∷ xss) all (suc i) d lt =
    let first = all 0 [] (omega arith) in
    let far : 4 * suc i ≡ length xs + 4 * i = omega (arith, first.four) in
    ap (λ k. take 4 (drop k (xs ++ concat xss))) far ∙ ap (take 4) (drop-append-add xs (concat xss) (4 * i)) ∙ chunk_at xss (rest_of xs xss all) i d (omega (arith, lt))

-- four bytes of operands for each code
pub four_each : (l : Layout) → length (operands_of l) ≡ 4 * length (codes_of l)
four_each l = length-concat l.operands.now l.parallel.each ∙ ap (λ k. 4 * k) l.parallel.as_many
