-- From what the parts of `parse` say to what it says of the line.
use Rattle.std.proofs.Common.{◌≡◌, ℕ, zero, suc, ◌/◌, ◌%◌, ◌<◌, List, [], ◌∷◌, ◌++◌, length, get_or, Some, None, Ok, Err, vec_items, codes, Option, Vec, sym, refl, ap, ◌∙◌, subst, inl, inr, arith, Bor}
use Rattle.std.specs.declared.alloc.Global.{Global}
use Rattle.std.proofs.lemmas.List.{get_or_at}
use Rattle.commands.specs.Hex.{digit, hex_of, Bytes, IsDigit, DigitsTo}
use Rattle.commands.specs.Lines.{NoBlank, Splits}
use Rattle.commands.specs.Commands.{written, IsName, FirstWord, Cause, Operand, Complete}
use Rattle.commands.specs.declared.command.Command.TheVariants.{Table}
use Rattle.commands.specs.declared.command.Mistake.{Mistake}
use Rattle.commands.specs.declared.command.Mistake.TheVariants.{UnknownCommand, MissingWord, SurplusWord, NotDigit, OddDigits, OutOfMemory}
use Rattle.commands.proofs.Digit.{digit_same}
use Rattle.commands.proofs.Decoding.{length-hex_of}
use Rattle.commands.proofs.Splitting.{length_cut}
use Rattle.std.proofs.lemmas.Bool.Decides.{nat_tests}

-- each character of `hex_of` is a digit
pub hex_of-digits : (bs : List ℕ) → Bytes bs → DigitsTo (length (hex_of bs)) (hex_of bs)
hex_of-digits [] b k h = absurd (omega arith)
hex_of-digits (x ∷ bs) b zero h = (x / 16, omega (arith, b.0), refl)
hex_of-digits (x ∷ bs) b (suc zero) h = (x % 16, omega arith, refl)
hex_of-digits (x ∷ bs) b (suc (suc k)) h = hex_of-digits bs b.1 k (omega arith)

blank_no_digit : IsDigit 32 → ⊥
unfolding digit
blank_no_digit (d, small, is) = grind (arith, nat_tests)

-- a text has one first word
same_first : (w v r q : List ℕ) → NoBlank w → NoBlank v → w ++ (32 ∷ r) ≡ v ++ (32 ∷ q) → w ≡ v
same_first [] [] r q n m e = refl
same_first [] (y ∷ v) r q n m e = let head : ◌≡◌ {A = ℕ} 32 y = cc in absurd (m 0 (omega arith) (sym head))
same_first (x ∷ w) [] r q n m e = let head : ◌≡◌ {A = ℕ} x 32 = cc in absurd (n 0 (omega arith) head)
same_first (x ∷ w) (y ∷ v) r q n m e =
    let tail : w ++ (32 ∷ r) ≡ v ++ (32 ∷ q) = cc in
    let same = same_first w v r q (λ k h. n (suc k) (omega arith)) (λ k h. m (suc k) (omega arith)) tail in
    cc

table_no_blank : NoBlank (codes "table")
table_no_blank k h e = grind arith

first_is_table : (line word rest : List ℕ) → FirstWord line word → line ≡ codes "table " ++ rest → word ≡ codes "table"
first_is_table line word rest (inl whole, none) e =
    let same : word ≡ codes "table" ++ (32 ∷ rest) = sym whole ∙ e in
    absurd (none 5 (omega (arith, ap length same)) (ap (λ (l : List ℕ). get_or l 5 0) same))
first_is_table line word rest (inr more, none) e =
    same_first word (codes "table") more.0 rest none table_no_blank (sym more.1 ∙ e)

-- the texts after the name and a blank are the same
same_text : (line name text rest : List ℕ) → IsName name → line ≡ name ++ (32 ∷ text) → line ≡ codes "table " ++ rest → text ≡ rest
same_text line name text rest is here there =
    let joined : codes "table" ++ (32 ∷ text) ≡ codes "table " ++ rest = ap (λ (l : List ℕ). l ++ (32 ∷ text)) (sym is) ∙ sym here ∙ there in
    cc

-- no mistake but want of memory is found on a line that a command is written on
pub only_memory : (line : List ℕ) (m : Mistake) → Cause line m → Complete line (Err m)
only_memory line UnknownCommand (word, first, other) (Table v) bytes e = absurd (other (first_is_table line word _ first e))
only_memory line MissingWord is (Table v) bytes e =
    let both : codes "table" ≡ codes "table " ++ hex_of (vec_items v) = sym is ∙ e in
    absurd (omega (arith, ap length both))
only_memory line (SurplusWord column) (name, word, rest, names, none, at) (Table v) bytes e =
    let same : word ++ (32 ∷ rest) ≡ hex_of (vec_items v) = same_text line name _ _ names.0 names.1 e in
    let within : length word < length (hex_of (vec_items v)) = omega (arith, length_cut _ word rest (sym same)) in
    let blank : get_or (hex_of (vec_items v)) (length word) 0 ≡ 32 = ap (λ (l : List ℕ). get_or l (length word) 0) (sym same) ∙ get_or_at word 32 rest 0 (length word) refl in
    absurd (blank_no_digit (subst IsDigit blank (hex_of-digits (vec_items v) bytes (length word) within)))
only_memory line (NotDigit column) (name, text, i, names, none, within, other, before, at) (Table v) bytes e =
    let same : text ≡ hex_of (vec_items v) = same_text line name _ _ names.0 names.1 e in
    absurd (other (subst (λ (l : List ℕ). IsDigit (get_or l i 0)) (sym same) (hex_of-digits (vec_items v) bytes i (omega (arith, ap length same)))))
only_memory line OddDigits (name, text, names, digits, odd) (Table v) bytes e =
    let same : text ≡ hex_of (vec_items v) = same_text line name _ _ names.0 names.1 e in
    absurd (omega (arith, ap length same, length-hex_of (vec_items v)))
only_memory line OutOfMemory cause (Table v) bytes e = refl

hex_of-same : (xs ys : List ℕ) → Bytes xs → Bytes ys → hex_of xs ≡ hex_of ys → xs ≡ ys
hex_of-same [] [] p q e = refl
hex_of-same [] (y ∷ ys) p q e = absurd (omega (arith, ap length e))
hex_of-same (x ∷ xs) [] p q e = absurd (omega (arith, ap length e))
hex_of-same (x ∷ xs) (y ∷ ys) p q e =
    let highs : digit (x / 16) ≡ digit (y / 16) = cc in
    let lows : digit (x % 16) ≡ digit (y % 16) = cc in
    let rests : hex_of xs ≡ hex_of ys = cc in
    let high : x / 16 ≡ y / 16 = digit_same _ _ (omega (arith, p.0)) (omega (arith, q.0)) highs in
    let low : x % 16 ≡ y % 16 = digit_same _ _ (omega arith) (omega arith) lows in
    let first : x ≡ y = omega arith in
    let same : xs ≡ ys = hex_of-same xs ys p.1 q.1 rests in
    cc

pub same_table : (line : List ℕ) (v : Vec ℕ Global) → line ≡ written (Table v) → Bytes (vec_items v) → Complete line (Ok (Some (Table v)))
same_table line v here fits (Table w) bytes e =
    let both : codes "table " ++ hex_of (vec_items w) ≡ codes "table " ++ hex_of (vec_items v) = sym e ∙ here in
    let texts : hex_of (vec_items w) ≡ hex_of (vec_items v) = cc in
    hex_of-same (vec_items w) (vec_items v) bytes fits texts

pub cause : (line name : List ℕ) (o : Option (Bor (List ℕ))) (m : Mistake) → IsName name → Splits line name o → Operand (length line) o (Err m) → Cause line m
cause line name o UnknownCommand is s a = absurd a
cause line name o MissingWord is s a = (subst (Splits line name) a s).0 ∙ is
cause line name o (SurplusWord column) is s (text, word, rest, some, cut, none, at) =
    let here = (subst (Splits line name) some s).0 in
    (name, word, rest, (is, here ∙ ap (λ (l : List ℕ). name ++ (32 ∷ l)) cut), none, omega (arith, at, length_cut _ _ _ here, length_cut _ _ _ cut))
cause line name o (NotDigit column) is s (text, i, some, none, within, other, before, at) =
    let here = (subst (Splits line name) some s).0 in
    (name, text.now, i, (is, here), none, within, other, before, omega (arith, at, length_cut _ _ _ here))
cause line name o OddDigits is s (text, some, digits, odd) = (name, text.now, (is, (subst (Splits line name) some s).0), digits, odd)
cause line name o OutOfMemory is s (text, some, hex) = (name, text.now, (is, (subst (Splits line name) some s).0), hex)

pub unknown : (line word : List ℕ) (o : Option (Bor (List ℕ))) → Splits line word o → (IsName word → ⊥) → Cause line UnknownCommand
unknown line word None s other = (word, (inl s.0, s.1), other)
unknown line word (Some rest) s other = (word, (inr (rest.now, s.0), s.1), other)
