-- Whether operands repeat.
use Rattle.std.proofs.Common.{◌≡◌, ℕ, ◌*◌, ◌<◌, ◌≤◌, Bool, true, false, MatchBool, List, [], length, get_or, take, drop, None, Some, Option, MatchOption, ℤ, sym, ap, ◌∙◌, subst, arith, rules}
use Rattle.std.specs.Option.{option_eq}
use Rattle.std.proofs.Common.{int_eq}
use Rattle.format.specs.Layout.{bytes4}
use Rattle.format.specs.Rows.{ValueAt}
use Rattle.format.proofs.Bytes.{bytes4_injective}
use Rattle.std.proofs.lemmas.List.{drop_all}
use Rattle.std.specs.List.{range_with_len, AllWithin, HoldsAt}
use Rattle.std.proofs.lemmas.List.FromFn.{length-range_with_len, get_or-range_with_len}
use Rattle.translator.specs.Reading.{Same, Earlier, NoEarlier, Repeated, NoneRepeated}

module _ (operands : List ℕ) (n : ℕ) (long : length operands ≡ 4 * n) where
  none_there : (i : ℕ) → n ≤ i → take 4 (drop (4 * i) operands) ≡ []
  none_there i past = ap (take 4) (drop_all (4 * i) operands (omega (arith, long)))

  pub same_of : (i j : ℕ) (a b : Option ℤ) → MatchOption a (n ≤ i) (ValueAt operands (4 * i)) → MatchOption b (n ≤ j) (ValueAt operands (4 * j)) → (r : Bool) → r ≡ option_eq int_eq a b → MatchBool r (Same operands i j) (Same operands i j → ⊥)
  same_of i j None None x y true e = none_there i x ∙ sym (none_there j y)
  same_of i j None None x y false e = absurd (search (rules, e))
  same_of i j None (Some w) x y true e = absurd (search (rules, e))
  same_of i j None (Some w) x y false e = λ s. let z = sym (none_there i x) ∙ s ∙ y.four in omega (arith, ap length z)
  same_of i j (Some v) None x y true e = absurd (search (rules, e))
  same_of i j (Some v) None x y false e = λ s. let z = sym (none_there j y) ∙ sym s ∙ x.four in omega (arith, ap length z)
  same_of i j (Some v) (Some w) x y true e = let z : v ≡ w = search (rules, e) in x.four ∙ ap bytes4 z ∙ sym y.four
  same_of i j (Some v) (Some w) x y false e = λ s. let z : v ≡ w = bytes4_injective v w x.value y.value (sym x.four ∙ s ∙ y.four) in absurd (search (rules, e, z))

nth : (n k : ℕ) → k < n → get_or (range_with_len 0 n) k 0 ≡ k
nth n k lt = get_or-range_with_len 0 n k 0 lt ∙ omega arith

-- whether any number below n has a property, said without a list
below : (n : ℕ) (Yes No : ℕ → Type 0) (r : Bool) → MatchBool r ((k : ℕ) × (k < length (range_with_len 0 n)) × HoldsAt Yes (range_with_len 0 n) k) (AllWithin No (range_with_len 0 n) 0 (length (range_with_len 0 n))) → MatchBool r ((k : ℕ) × (k < n) × Yes k) ((k : ℕ) → k < n → No k)
below n Yes No true found =
    let lt : found.0 < n = omega (arith, found.1, length-range_with_len 0 n) in
    (found.0, lt, subst Yes (nth n found.0 lt) (found.2 0))
below n Yes No false none =
    λ k lt. subst No (nth n k lt) (none k 0 (omega arith) (omega (arith, lt, length-range_with_len 0 n)))

module _ (operands : List ℕ) (n : ℕ) where
  pub earlier : (r : Bool) → MatchBool r ((k : ℕ) × (k < length (range_with_len 0 n)) × HoldsAt (λ i. Same operands i n) (range_with_len 0 n) k) (AllWithin (λ i. Same operands i n → ⊥) (range_with_len 0 n) 0 (length (range_with_len 0 n))) → MatchBool r (Earlier operands n) (NoEarlier operands n)
  earlier true x = let found = below n (λ i. Same operands i n) (λ i. Same operands i n → ⊥) true x in record { i = found.0; before = found.1; same = found.2 }
  earlier false x = below n (λ i. Same operands i n) (λ i. Same operands i n → ⊥) false x

  pub repeated : (r : Bool) → MatchBool r ((k : ℕ) × (k < length (range_with_len 0 n)) × HoldsAt (Earlier operands) (range_with_len 0 n) k) (AllWithin (NoEarlier operands) (range_with_len 0 n) 0 (length (range_with_len 0 n))) → MatchBool r (Repeated operands n) (NoneRepeated operands n)
  repeated true x = let found = below n (Earlier operands) (NoEarlier operands) true x in record { j = found.0; within = found.1; earlier = found.2 }
  repeated false x = below n (Earlier operands) (NoEarlier operands) false x
