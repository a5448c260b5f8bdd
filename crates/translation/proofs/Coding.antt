-- How long code is, and the laws of it.
use Rattle.std.proofs.Common.{◌≡◌, ℕ, ◌+◌, ◌<◌, ◌≤◌, List, [], ◌∷◌, ◌++◌, map, length, Some, None, Option, sym, refl, ap, ◌∙◌, arith, length-append}
use Rattle.std.proofs.lemmas.List.{map-append}
use Rattle.language.specs.Tree.{Exp, LITERAL, VAR, SET, IF, WHILE, BEGIN, APPLY, Exps, nil, cons, Definition, VAL, DEFINE, body, count}
use Rattle.language.specs.Names.{place}
use Rattle.format.specs.declared.instr.Instr.{Instr}
use Rattle.format.specs.declared.instr.Instr.TheVariants.{Jump, Jz, Ret, Bind}
use Rattle.translator.specs.Weight.{weight, together, weights}
use Rattle.translation.specs.Translation.{load, store, code, sequence, rest, arguments, instrs}
use Rattle.translation.specs.Laws.{moved, JumpsIn, AllJumpIn, Relocates, Laws}

-- where each part of an IF or a WHILE begins
abbrev pub second : List ℕ → Exp → ℕ → ℕ
second xs c p = p + length (code xs c p) + 1

abbrev pub third : List ℕ → Exp → Exp → ℕ → ℕ
third xs c a p = second xs c p + length (code xs a (second xs c p)) + 1

mutual
  unfolding code

  pub length-code : (xs : List ℕ) (e : Exp) (p : ℕ) → length (code xs e p) ≡ weight e
  length-code xs (LITERAL v) p = refl
  length-code xs (VAR x) p = refl
  length-code xs (SET x e) p = simp length-append (omega (arith, length-code xs e p))
  length-code xs (IF c a b) p = simp length-append (omega (arith, length-code xs c p, length-code xs a (second xs c p), length-code xs b (third xs c a p)))
  length-code xs (WHILE c b) p = simp length-append (omega (arith, length-code xs c p, length-code xs b (second xs c p)))
  length-code xs (BEGIN es) p = length-sequence xs es p
  length-code xs (APPLY f es) p = simp length-append (omega (arith, length-arguments xs es (p + 1)))

  length-sequence : (xs : List ℕ) (es : Exps) (p : ℕ) → length (sequence xs es p) ≡ together es
  length-sequence xs nil p = refl
  length-sequence xs (cons e es) p = simp length-append (omega (arith, length-code xs e p, length_rest xs es (p + length (code xs e p))))

  pub length_rest : (xs : List ℕ) (es : Exps) (p : ℕ) → length (rest xs es p) ≡ count es + weights es
  length_rest xs nil p = refl
  length_rest xs (cons e es) p = simp length-append (omega (arith, length-code xs e (p + 1), length_rest xs es (p + 1 + length (code xs e (p + 1)))))

  pub length-arguments : (xs : List ℕ) (es : Exps) (p : ℕ) → length (arguments xs es p) ≡ weights es
  length-arguments xs nil p = refl
  length-arguments xs (cons e es) p = simp length-append (omega (arith, length-code xs e p, length-arguments xs es (p + length (code xs e p))))

-- a definition has one instruction more than its expression
pub length-instrs : (d : Definition) → length (instrs d) ≡ weight (body d) + 1
length-instrs (VAL x e) = length-append (code [] e 0) (Bind x ∷ []) ∙ omega (arith, length-code [] e 0)
length-instrs (DEFINE f xs e) = length-append (code xs e 0) (Ret ∷ []) ∙ omega (arith, length-code xs e 0)

mutual
  pub weight_some : (e : Exp) → 0 < weight e
  weight_some (BEGIN es) = together_some es
  weight_some _ = omega arith

  together_some : (es : Exps) → 0 < together es
  together_some nil = omega arith
  together_some (cons e es) = omega (arith, weight_some e)

-- ---- the laws

-- moved instructions one after the other
record Moved (k : ℕ) (A B : List Instr) : Type 0 where
  is : A ≡ map (moved k) B

moved_all : {k : ℕ} {A B C D : List Instr} → Moved k A C → Moved k B D → Moved k (A ++ B) (C ++ D)
moved_all {k} {A} {B} {C} {D} p q = record { is = (λ i. p.is i ++ q.is i) ∙ sym (map-append (moved k) C D) }

moved_more : {k : ℕ} {B D : List Instr} {x y : Instr} → x ≡ moved k y → Moved k B D → Moved k (x ∷ B) (y ∷ D)
moved_more r q = record { is = λ i. r i ∷ q.is i }

moved_none : {k : ℕ} → Moved k [] []
moved_none = record { is = refl }

moved_load : (k : ℕ) (o : Option ℕ) (x : ℕ) → load o x ≡ moved k (load o x)
moved_load k None x = refl
moved_load k (Some i) x = refl

moved_store : (k : ℕ) (o : Option ℕ) (x : ℕ) → store o x ≡ moved k (store o x)
moved_store k None x = refl
moved_store k (Some i) x = refl

same_length : (xs : List ℕ) (e : Exp) (p q : ℕ) → length (code xs e q) ≡ length (code xs e p)
same_length xs e p q = length-code xs e q ∙ sym (length-code xs e p)

module _ (xs : List ℕ) (k : ℕ) where
  second_moves : (c : Exp) (p q : ℕ) → q ≡ k + p → second xs c q ≡ k + second xs c p
  second_moves c p q h = omega (arith, same_length xs c p q)

  third_moves : (c a : Exp) (p q : ℕ) → q ≡ k + p → third xs c a q ≡ k + third xs c a p
  third_moves c a p q h = omega (arith, second_moves c p q h, same_length xs a (second xs c p) (second xs c q))

  after_moves : (e : Exp) (p q : ℕ) → q ≡ k + p → q + length (code xs e q) ≡ k + (p + length (code xs e p))
  after_moves e p q h = omega (arith, same_length xs e p q)

  mutual
    unfolding code

    move : (e : Exp) (p q : ℕ) → q ≡ k + p → Moved k (code xs e q) (code xs e p)
    move (LITERAL v) p q h = record { is = refl }
    move (VAR x) p q h = moved_more (moved_load k (place xs x) x) moved_none
    move (SET x e) p q h = moved_all (move e p q h) (moved_more (moved_store k (place xs x) x) moved_none)
    move (IF c a b) p q h =
        let to = third_moves c a p q h in
        moved_all (move c p q h) (moved_more (ap Jz to) (moved_all (move a (second xs c p) (second xs c q) (second_moves c p q h)) (moved_more (ap Jump (after_moves b (third xs c a p) (third xs c a q) to)) (move b (third xs c a p) (third xs c a q) to))))
    move (WHILE c b) p q h =
        let to = second_moves c p q h in
        let past = after_moves b (second xs c p) (second xs c q) to in
        moved_all (move c p q h) (moved_more (ap Jz (omega (arith, past))) (moved_all (move b (second xs c p) (second xs c q) to) (moved_more refl (moved_more (ap Jump h) (moved_more refl moved_none)))))
    move (BEGIN es) p q h = move_sequence es p q h
    move (APPLY f es) p q h = moved_more refl (moved_all (move_arguments es (p + 1) (q + 1) (omega arith)) (moved_more refl moved_none))

    move_sequence : (es : Exps) (p q : ℕ) → q ≡ k + p → Moved k (sequence xs es q) (sequence xs es p)
    move_sequence nil p q h = record { is = refl }
    move_sequence (cons e es) p q h = moved_all (move e p q h) (move_rest es (p + length (code xs e p)) (q + length (code xs e q)) (after_moves e p q h))

    move_rest : (es : Exps) (p q : ℕ) → q ≡ k + p → Moved k (rest xs es q) (rest xs es p)
    move_rest nil p q h = moved_none
    move_rest (cons e es) p q h =
        moved_more refl (moved_all (move e (p + 1) (q + 1) (omega arith)) (move_rest es (p + 1 + length (code xs e (p + 1))) (q + 1 + length (code xs e (q + 1))) (after_moves e (p + 1) (q + 1) (omega arith))))

    move_arguments : (es : Exps) (p q : ℕ) → q ≡ k + p → Moved k (arguments xs es q) (arguments xs es p)
    move_arguments nil p q h = moved_none
    move_arguments (cons e es) p q h = moved_all (move e p q h) (move_arguments es (p + length (code xs e p)) (q + length (code xs e q)) (after_moves e p q h))

pub relocates : Relocates
relocates xs e k p = (move xs k e p (k + p) refl).is

-- jumps from low to high
record Inside (low high : ℕ) (is : List Instr) : Type 0 where
  all : AllJumpIn low high is

jumps_wider : (x : Instr) (l h m n : ℕ) → m ≤ l → h ≤ n → JumpsIn l h x → JumpsIn m n x
jumps_wider (Jump t) l h m n low high a = (omega (arith, a.0), omega (arith, a.1))
jumps_wider (Jz t) l h m n low high a = (omega (arith, a.0), omega (arith, a.1))
jumps_wider _ l h m n low high a = tt

all_wider : (is : List Instr) (l h m n : ℕ) → m ≤ l → h ≤ n → AllJumpIn l h is → AllJumpIn m n is
all_wider [] l h m n low high a = tt
all_wider (x ∷ is) l h m n low high a = (jumps_wider x l h m n low high a.0, all_wider is l h m n low high a.1)

all_append : (is js : List Instr) (m n : ℕ) → AllJumpIn m n is → AllJumpIn m n js → AllJumpIn m n (is ++ js)
all_append [] js m n a b = b
all_append (x ∷ is) js m n a b = (a.0, all_append is js m n a.1 b)

module _ {m n : ℕ} where
  -- code that jumps inside a narrower range, and more after it
  inside_all : {l h : ℕ} {is js : List Instr} → m ≤ l → h ≤ n → Inside l h is → Inside m n js → Inside m n (is ++ js)
  inside_all {l} {h} {is} {js} low high a b = record { all = all_append is js m n (all_wider is l h m n low high a.all) b.all }

  inside_more : {x : Instr} {is : List Instr} → JumpsIn m n x → Inside m n is → Inside m n (x ∷ is)
  inside_more a b = record { all = (a, b.all) }

  inside_none : Inside m n []
  inside_none = record { all = tt }

inside_wider : {l m n : ℕ} {is : List Instr} → m ≤ l → Inside l n is → Inside m n is
inside_wider {l} {m} {n} {is} low a = record { all = all_wider is l n m n low (omega arith) a.all }

inside_load : (m n : ℕ) (o : Option ℕ) (x : ℕ) → JumpsIn m n (load o x)
inside_load m n None x = tt
inside_load m n (Some i) x = tt

inside_store : (m n : ℕ) (o : Option ℕ) (x : ℕ) → JumpsIn m n (store o x)
inside_store m n None x = tt
inside_store m n (Some i) x = tt

module _ (xs : List ℕ) where
  mutual
    unfolding code

    inside : (e : Exp) (p n : ℕ) → p + weight e ≤ n → Inside p n (code xs e p)
    inside (LITERAL v) p n h = inside_more tt inside_none
    inside (VAR x) p n h = inside_more (inside_load p n (place xs x) x) inside_none
    inside (SET x e) p n h = inside_all (omega arith) (omega arith) (inside e p n (omega arith)) (inside_more (inside_store p n (place xs x) x) inside_none)
    inside (IF c a b) p n h =
        let c_long = length-code xs c p in
        let a_long = length-code xs a (second xs c p) in
        let b_long = length-code xs b (third xs c a p) in
        inside_all (omega arith) (omega arith) (inside c p n (omega arith))
        (inside_more (omega arith, omega arith) (inside_all (omega arith) (omega arith) (inside a (second xs c p) n (omega arith))
        (inside_more (omega arith, omega arith) (inside_wider (omega arith) (inside b (third xs c a p) n (omega arith))))))
    inside (WHILE c b) p n h =
        let c_long = length-code xs c p in
        let b_long = length-code xs b (second xs c p) in
        inside_all (omega arith) (omega arith) (inside c p n (omega arith))
        (inside_more (omega arith, omega arith) (inside_all (omega arith) (omega arith) (inside b (second xs c p) n (omega arith))
        (inside_more tt (inside_more (omega arith, omega arith) (inside_more tt inside_none)))))
    inside (BEGIN es) p n h = inside_sequence es p n h
    inside (APPLY f es) p n h =
        inside_more tt (inside_all (omega arith) (omega arith) (inside_arguments es p (p + 1) n (omega arith) (omega arith)) (inside_more tt inside_none))

    inside_sequence : (es : Exps) (p n : ℕ) → p + together es ≤ n → Inside p n (sequence xs es p)
    inside_sequence nil p n h = inside_more tt inside_none
    inside_sequence (cons e es) p n h =
        let long = length-code xs e p in
        inside_all (omega arith) (omega arith) (inside e p n (omega arith)) (inside_rest es p (p + length (code xs e p)) n (omega arith) (omega arith))

    inside_rest : (es : Exps) (m p n : ℕ) → m ≤ p → p + (count es + weights es) ≤ n → Inside m n (rest xs es p)
    inside_rest nil m p n low h = inside_none
    inside_rest (cons e es) m p n low h =
        let long = length-code xs e (p + 1) in
        inside_more tt (inside_all (omega arith) (omega arith) (inside e (p + 1) n (omega arith)) (inside_rest es m (p + 1 + length (code xs e (p + 1))) n (omega arith) (omega arith)))

    inside_arguments : (es : Exps) (m p n : ℕ) → m ≤ p → p + weights es ≤ n → Inside m n (arguments xs es p)
    inside_arguments nil m p n low h = inside_none
    inside_arguments (cons e es) m p n low h =
        let long = length-code xs e p in
        inside_all (omega arith) (omega arith) (inside e p n (omega arith)) (inside_arguments es m (p + length (code xs e p)) n (omega arith) (omega arith))

pub laws : Laws
laws = record { relocates = relocates; encloses = λ xs e p. (inside xs e p _ (omega (arith, length-code xs e p))).all }
