-- What stands in memory after writes one after the other.
use Rattle.std.proofs.Common.{◌≡◌, ℕ, suc, ◌+◌, ◌-◌, ◌*◌, ◌<◌, ◌≤◌, List, [], ◌∷◌, ◌++◌, map, length, take, drop, set, ℤ, sym, refl, ap, ◌∙◌, subst, append_assoc, arith, length-append, length-set}
use Rattle.std.proofs.lemmas.List.{map-append, length-map, set_comm, drop-drop}
use Rattle.std.proofs.lemmas.List.Edits.{sets, sets-eq}
use Rattle.format.specs.declared.instr.Instr.{Instr}
use Rattle.format.specs.Layout.{bytes4, operand_bytes}
use Rattle.format.specs.Instrs.{code, operand}
use Rattle.format.proofs.Bytes.{length-operands}
use Rattle.translation.specs.declared.writer.Writer.{Writer}
use Rattle.translation.specs.Writing.{written, Kept, Wrote, Emitted, Passed}

sets_append : (out : List ℕ) (at : ℕ) (xs ys : List ℕ) (to : ℕ) → to ≡ at + length xs → sets out at (xs ++ ys) ≡ sets (sets out at xs) to ys
sets_append out at [] ys to h = ap (λ k. sets out k ys) (omega arith)
sets_append out at (x ∷ xs) ys to h = sets_append (set out at x) (suc at) xs ys to (omega arith)

sets_set : (out : List ℕ) (i x to : ℕ) (ys : List ℕ) → i < to → sets (set out i x) to ys ≡ set (sets out to ys) i x
sets_set out i x to [] h = refl
sets_set out i x to (y ∷ ys) h =
    ap (λ l. sets l (suc to) ys) (set_comm out i to x y (λ e. omega arith)) ∙ sets_set (set out to y) i x (suc to) ys (omega arith)

-- writes that do not meet come in either order
sets_comm : (out : List ℕ) (at : ℕ) (xs : List ℕ) (to : ℕ) (ys : List ℕ) → at + length xs ≤ to → sets (sets out at xs) to ys ≡ sets (sets out to ys) at xs
sets_comm out at [] to ys h = refl
sets_comm out at (x ∷ xs) to ys h =
    sets_comm (set out at x) (suc at) xs to ys (omega arith) ∙ ap (λ l. sets l (suc at) xs) (sets_set out at x to ys (omega arith))

pub sets_is : (out : List ℕ) (at : ℕ) (ys : List ℕ) → at + length ys ≤ length out → sets out at ys ≡ take at out ++ (ys ++ drop (at + length ys) out)
sets_is out at ys h = sets-eq ys out at h ∙ append_assoc (take at out) ys (drop (at + length ys) out)

-- ---- instructions

operands_append : (xs ys : List ℤ) → operand_bytes (xs ++ ys) ≡ operand_bytes xs ++ operand_bytes ys
operands_append [] ys = refl
operands_append (x ∷ xs) ys = ap (λ l. bytes4 x ++ l) (operands_append xs ys) ∙ sym (append_assoc (bytes4 x) (operand_bytes xs) (operand_bytes ys))

operands_long : (is : List Instr) → length (operand_bytes (map operand is)) ≡ 4 * length is
operands_long is = length-operands (map operand is) ∙ ap (λ k. 4 * k) (length-map is operand)

written_is : (n : ℕ) (out : List ℕ) (p : ℕ) (is : List Instr) → written n out p is ≡ sets (sets out (8 + p) (map code is)) (8 + n + 4 * p) (operand_bytes (map operand is))
unfolding written
written_is n out p is = refl

module _ (n : ℕ) (out : List ℕ) (p : ℕ) (xs : List Instr) (q : ℕ) (ys : List Instr) where
  abbrev c : List ℕ
  c = map code xs

  abbrev d : List ℕ
  d = map code ys

  abbrev o : List ℕ
  o = operand_bytes (map operand xs)

  abbrev u : List ℕ
  u = operand_bytes (map operand ys)

  -- one piece of code after the other
  written_append : q ≡ p + length xs → q + length ys ≤ n → written n out p (xs ++ ys) ≡ written n (written n out p xs) q ys
  written_append h room =
      let lc : length c ≡ length xs = length-map xs code in
      let ld : length d ≡ length ys = length-map ys code in
      let lo : length o ≡ 4 * length xs = operands_long xs in
      let a = sets out (8 + p) c in
      let all : operand_bytes (map operand (xs ++ ys)) ≡ o ++ u = ap operand_bytes (map-append operand xs ys) ∙ operands_append (map operand xs) (map operand ys) in
      written_is n out p (xs ++ ys)
      ∙ (λ i. sets (sets out (8 + p) (map-append code xs ys i)) (8 + n + 4 * p) (all i))
      ∙ ap (λ l. sets l (8 + n + 4 * p) (o ++ u)) (sets_append out (8 + p) c d (8 + q) (omega arith))
      ∙ sets_append (sets a (8 + q) d) (8 + n + 4 * p) o u (8 + n + 4 * q) (omega arith)
      ∙ ap (λ l. sets l (8 + n + 4 * q) u) (sets_comm a (8 + q) d (8 + n + 4 * p) o (omega arith))
      ∙ sym (written_is n (written n out p xs) q ys ∙ ap (λ l. sets (sets l (8 + q) d) (8 + n + 4 * q) u) (written_is n out p xs))

  -- a gap filled afterwards
  written_comm : p + length xs ≤ q → q + length ys ≤ n → written n (written n out p xs) q ys ≡ written n (written n out q ys) p xs
  written_comm h room =
      let lc : length c ≡ length xs = length-map xs code in
      let ld : length d ≡ length ys = length-map ys code in
      let lo : length o ≡ 4 * length xs = operands_long xs in
      let a = sets out (8 + p) c in
      let b = sets out (8 + q) d in
      written_is n (written n out p xs) q ys
      ∙ ap (λ l. sets (sets l (8 + q) d) (8 + n + 4 * q) u) (written_is n out p xs)
      ∙ ap (λ l. sets l (8 + n + 4 * q) u) (sym (sets_comm a (8 + q) d (8 + n + 4 * p) o (omega arith)))
      ∙ ap (λ l. sets (sets l (8 + n + 4 * p) o) (8 + n + 4 * q) u) (sets_comm out (8 + p) c (8 + q) d (omega arith))
      ∙ sets_comm (sets b (8 + p) c) (8 + n + 4 * p) o (8 + n + 4 * q) u (omega arith)
      ∙ ap (λ l. sets l (8 + n + 4 * p) o) (sets_comm b (8 + p) c (8 + n + 4 * q) u (omega arith))
      ∙ sym (written_is n (written n out q ys) p xs ∙ ap (λ l. sets (sets l (8 + p) c) (8 + n + 4 * p) o) (written_is n out q ys))

-- the whole of an image, after its header
pub written_whole : (n : ℕ) (out head : List ℕ) (is : List Instr) → length head ≡ 8 → length is ≡ n → 8 + 5 * n ≤ length out → written n (sets out 0 head) 0 is ≡ (head ++ (map code is ++ operand_bytes (map operand is))) ++ drop (8 + 5 * n) out
written_whole n out head is eight long room =
    let cs = map code is in
    let os = operand_bytes (map operand is) in
    let lc : length cs ≡ n = length-map is code ∙ long in
    let lo : length os ≡ 4 * n = operands_long is ∙ ap (λ k. 4 * k) long in
    let ys = head ++ (cs ++ os) in
    let total : length ys ≡ 8 + 5 * n = simp length-append (omega arith) in
    written_is n (sets out 0 head) 0 is
    ∙ ap (λ k. sets (sets (sets out 0 head) 8 cs) k os) (omega arith)
    ∙ sym (sets_append (sets out 0 head) 8 cs os (8 + n) (omega arith))
    ∙ sym (sets_append out 0 head (cs ++ os) 8 (omega arith))
    ∙ sets_is out 0 ys (omega arith)
    ∙ ap (λ k. ys ++ drop k out) (let z : 0 + length ys ≡ 8 + 5 * n = omega (arith, total) in z)

-- one instruction
pub put_one : (n : ℕ) (out : List ℕ) (p : ℕ) (x : Instr) (c : ℕ) (ys : List ℕ) → c ≡ code x → ys ≡ bytes4 (operand x) → p < n → 8 + 5 * n ≤ length out → take (8 + n + 4 * p) (set out (8 + p) c) ++ (ys ++ drop (8 + n + 4 * p + 4 - (8 + n + 4 * p)) (drop (8 + n + 4 * p) (set out (8 + p) c))) ≡ written n out p (x ∷ [])
unfolding written
put_one n out p x c ys code_is bytes_are within long =
    let at = 8 + n + 4 * p in
    let base = set out (8 + p) c in
    let past : drop (at + 4 - at) (drop at base) ≡ drop (at + 4) base = drop-drop (at + 4 - at) at base ∙ ap (λ k. drop k base) (omega arith) in
    (λ i. take at base ++ (bytes_are i ++ past i))
    ∙ sym (sets_is base at (bytes4 (operand x)) (omega (arith, length-set out (8 + p) c)))
    ∙ ap (λ k. sets (set out (8 + p) k) at (bytes4 (operand x))) code_is

-- ---- the memory of an image

module _ {w w₁ w₂ : Writer} where
  pub kept_both : Kept w w₁ → Kept w₁ w₂ → Kept w w₂
  kept_both k l = record { same_bytes = l.same_bytes ∙ k.same_bytes; same_count = l.same_count ∙ k.same_count }

  pub wrote_both : {p q : ℕ} {xs ys : List Instr} → Wrote w w₁ p xs → Wrote w₁ w₂ q ys → q ≡ p + length xs → q + length ys ≤ w.count → Wrote w w₂ p (xs ++ ys)
  wrote_both {p} {q} {xs} {ys} f g h room =
      record {
        kept = kept_both f.kept g.kept;
        bytes_are = g.bytes_are ∙ (λ i. written (f.kept.same_count i) (f.bytes_are i) q ys) ∙ sym (written_append w.count w.bytes.now p xs q ys h room);
      }

  -- an instruction written after those that follow it
  wrote_back : {p q : ℕ} {x : Instr} {ys : List Instr} → Wrote w w₁ q ys → Wrote w₁ w₂ p (x ∷ []) → q ≡ p + 1 → q + length ys ≤ w.count → Wrote w w₂ p (x ∷ ys)
  wrote_back {p} {q} {x} {ys} f g h room =
      let n = w.count in
      let out = w.bytes.now in
      record {
        kept = kept_both f.kept g.kept;
        bytes_are =
            g.bytes_are ∙ (λ i. written (f.kept.same_count i) (f.bytes_are i) p (x ∷ []))
            ∙ sym (written_comm n out p (x ∷ []) q ys (omega arith) room)
            ∙ sym (written_append n out p (x ∷ []) q ys h room);
      }

  pub passed_then : {k j p : ℕ} {is : List Instr} → Passed w w₁ k j → Wrote w₁ w₂ p is → Wrote w w₂ p is
  passed_then {k} {j} {p} {is} past g =
      record { kept = kept_both past.kept g.kept; bytes_are = g.bytes_are ∙ (λ i. written (past.kept.same_count i) (past.bytes_are i) p is) }

  -- a cell, and then more
  pub cell_then : {k : ℕ} {is : List Instr} → Passed w w₁ 1 0 → Emitted w₁ w₂ k is → Emitted w w₂ (k + 1) is
  cell_then {k} {is} past e =
      let at : w₁.«end» ≡ w.«end» = omega (arith, past.end_is) in
      record { next_is = omega (arith, past.next_is, e.next_is); end_is = omega (arith, e.end_is); wrote = subst (λ p. Wrote w w₂ p is) at (passed_then past e.wrote) }

  -- one piece of code after the other
  pub both : {a b : ℕ} {xs ys : List Instr} → Emitted w w₁ a xs → Emitted w₁ w₂ b ys → w₂.«end» ≤ w.count → Emitted w w₂ (a + b) (xs ++ ys)
  both {a} {b} {xs} {ys} e f room =
      record {
        next_is = omega (arith, e.next_is, f.next_is);
        end_is = omega (arith, e.end_is, f.end_is, length-append xs ys);
        wrote = wrote_both e.wrote f.wrote e.end_is (omega (arith, f.end_is));
      }

-- two pieces of code, and then the instruction between them
pub filled : {w w₁ w₂ w₃ : Writer} {p q r : ℕ} {xs ys : List Instr} {x : Instr} → Wrote w w₁ p xs → Wrote w₁ w₂ q ys → Wrote w₂ w₃ r (x ∷ []) → r ≡ p + length xs → q ≡ r + 1 → q + length ys ≤ w.count → Wrote w w₃ p (xs ++ (x ∷ ys))
filled f g h at next room = wrote_both f (wrote_back g h next (omega (arith, f.kept.same_count))) at (omega arith)

-- the same, told in other words
pub same : {w w₁ : Writer} {j k : ℕ} {is js : List Instr} → Emitted w w₁ k is → k ≡ j → is ≡ js → Emitted w w₁ j js
same {w} {w₁} {j} {k} {is} {js} e h is_same = subst (λ l. Emitted w w₁ j l) is_same (subst (λ i. Emitted w w₁ i is) h e)

pub nothing : {w : Writer} → Emitted w w 0 []
unfolding written
nothing {w} = record { next_is = omega arith; end_is = omega arith; wrote = record { kept = record { same_bytes = refl; same_count = refl }; bytes_are = refl } }
