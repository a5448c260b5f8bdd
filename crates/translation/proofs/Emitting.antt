-- What each kind of expression leaves in the memory of its image.
use Rattle.std.proofs.Common.{◌≡◌, ℕ, ◌+◌, ◌-◌, ◌<◌, ◌≤◌, List, [], ◌∷◌, ◌++◌, length, ℤ, pos, sym, refl, ap, ◌∙◌, subst, append_assoc, arith, length-append}
use Rattle.language.specs.Tree.{Exp, LITERAL, VAR, SET, IF, WHILE, BEGIN, APPLY, Exps, nil, cons, count}
use Rattle.language.specs.Names.{place}
use Rattle.format.specs.declared.cell.Cell.{Cell}
use Rattle.format.specs.declared.cell.Cell.TheVariants.{Literal, Var, Set, If, While, Begin, Apply, Formal}
use Rattle.format.specs.declared.instr.Instr.{Instr}
use Rattle.format.specs.declared.instr.Instr.TheVariants.{Push, Pop, Jump, Jz, Find, Call}
use Rattle.translator.specs.InCells.{cell_codes, cell_operands, CellIn}
use Rattle.format.specs.Cells.{encode, encodes}
use Rattle.translator.specs.Weight.{weight}
use Rattle.translation.specs.declared.emit.Source.{Source}
use Rattle.translation.specs.declared.emit.Role.{Role}
use Rattle.translation.specs.declared.emit.Role.TheVariants.{Part, Argument}
use Rattle.translation.specs.declared.writer.Writer.{Writer}
use Rattle.translation.specs.Translation.{load, store, code, rest, arguments}
use Rattle.translation.specs.Standing.{CellsIn, SomeCell}
use Rattle.translation.specs.Writing.{written, Wrote, Emitted, Passed, Put}
use Rattle.translation.specs.Emission.{names, Here, Ready, ReadyAs, Emits, before, listed, listed_weight, HereList, ReadyList, EmitsList}
use Rattle.translator.proofs.Trees.{head_of, unique, encode_size, size_some}
use Rattle.translator.proofs.Places.{one_cell, cells_front, cells_back, meet}
use Rattle.translator.proofs.Steps.{first, one_exp}
use Rattle.translation.proofs.Coding.{second, third, length-code, length_rest, length-arguments, weight_some}
use Rattle.translation.proofs.Writing.{both, filled, passed_then, cell_then, same, nothing}

-- what the first cell says of an expression
abbrev View : Cell → Exp → Type 0
View (Literal v) e = e ≡ LITERAL v
View (Var x) e = e ≡ VAR x
View (Set x) e = (a : Exp) × (e ≡ SET x a)
View If e = (c : Exp) × (a : Exp) × (b : Exp) × (e ≡ IF c a b)
View While e = (c : Exp) × (b : Exp) × (e ≡ WHILE c b)
View (Begin n) e = (es : Exps) × (e ≡ BEGIN es) × (count es ≡ n)
View (Apply f n) e = (es : Exps) × (e ≡ APPLY f es) × (count es ≡ n)
View (Formal x) e = ⊥

view : (e : Exp) → View (head_of e) e
view (LITERAL v) = refl
view (VAR x) = refl
view (SET x a) = (a, refl)
view (IF c a b) = (c, a, b, refl)
view (WHILE c b) = (c, b, refl)
view (BEGIN es) = (es, refl, refl)
view (APPLY f es) = (es, refl, refl)

-- ---- the code of each kind

code_literal : (xs : List ℕ) (v : ℤ) (p : ℕ) → Push v ∷ [] ≡ code xs (LITERAL v) p
unfolding code
code_literal xs v p = refl

code_var : (xs : List ℕ) (x p : ℕ) → load (place xs x) x ∷ [] ≡ code xs (VAR x) p
unfolding code
code_var xs x p = refl

code_set : (xs : List ℕ) (x : ℕ) (a : Exp) (p : ℕ) → code xs a p ++ (store (place xs x) x ∷ []) ≡ code xs (SET x a) p
unfolding code
code_set xs x a p = refl

code_if : (xs : List ℕ) (c a b : Exp) (p q r j v : ℕ) → q ≡ second xs c p → r ≡ q + length (code xs a q) + 1 → j ≡ r → v ≡ r + length (code xs b r) → (code xs c p ++ (Jz j ∷ code xs a q)) ++ (Jump v ∷ code xs b r) ≡ code xs (IF c a b) p
unfolding code
code_if xs c a b p q r j v hq hr hj hv =
    let to : r ≡ third xs c a p = hr ∙ ap (λ q. q + length (code xs a q) + 1) hq in
    let past : v ≡ third xs c a p + length (code xs b (third xs c a p)) = hv ∙ ap (λ r. r + length (code xs b r)) to in
    let target : j ≡ third xs c a p = hj ∙ to in
    append_assoc (code xs c p) (Jz j ∷ code xs a q) (Jump v ∷ code xs b r) ∙ (λ i. code xs c p ++ (Jz (target i) ∷ (code xs a (hq i) ++ (Jump (past i) ∷ code xs b (to i)))))

code_while : (xs : List ℕ) (c b : Exp) (p q j k : ℕ) → q ≡ second xs c p → j ≡ q + length (code xs b q) + 2 → k ≡ p → (code xs c p ++ (Jz j ∷ (code xs b q ++ (Pop ∷ Jump k ∷ [])))) ++ (Push (pos 0) ∷ []) ≡ code xs (WHILE c b) p
unfolding code
code_while xs c b p q j k hq hj hk =
    let target : j ≡ second xs c p + length (code xs b (second xs c p)) + 2 = hj ∙ ap (λ q. q + length (code xs b q) + 2) hq in
    append_assoc (code xs c p) (Jz j ∷ (code xs b q ++ (Pop ∷ Jump k ∷ []))) (Push (pos 0) ∷ [])
    ∙ ap (λ l. code xs c p ++ (Jz j ∷ l)) (append_assoc (code xs b q) (Pop ∷ Jump k ∷ []) (Push (pos 0) ∷ []))
    ∙ (λ i. code xs c p ++ (Jz (target i) ∷ (code xs b (hq i) ++ (Pop ∷ Jump (hk i) ∷ Push (pos 0) ∷ []))))

code_empty : (xs : List ℕ) (p : ℕ) → Push (pos 0) ∷ [] ≡ code xs (BEGIN nil) p
unfolding code
code_empty xs p = refl

code_begin : (xs : List ℕ) (e : Exp) (es : Exps) (p q : ℕ) → q ≡ p + length (code xs e p) → code xs e p ++ rest xs es q ≡ code xs (BEGIN (cons e es)) p
unfolding code
code_begin xs e es p q h = ap (λ q. code xs e p ++ rest xs es q) h

code_apply : (xs : List ℕ) (f : ℕ) (es : Exps) (p q : ℕ) → q ≡ p + 1 → Find f ∷ (arguments xs es q ++ (Call f (count es) ∷ [])) ≡ code xs (APPLY f es) p
unfolding code
code_apply xs f es p q h = ap (λ q. Find f ∷ (arguments xs es q ++ (Call f (count es) ∷ []))) h

code_none : (role : Role) (xs : List ℕ) (p : ℕ) → [] ≡ listed role xs nil p
unfolding code
code_none Part xs p = refl
code_none Argument xs p = refl

code_more : (role : Role) (xs : List ℕ) (e : Exp) (es : Exps) (p q r : ℕ) → q ≡ p + length (before role) → r ≡ q + length (code xs e q) → before role ++ (code xs e q ++ listed role xs es r) ≡ listed role xs (cons e es) p
unfolding code
code_more Part xs e es p q r hq hr = ap (λ r. Pop ∷ (code xs e q ++ rest xs es r)) hr ∙ ap (λ q. Pop ∷ (code xs e q ++ rest xs es (q + length (code xs e q)))) hq
code_more Argument xs e es p q r hq hr =
    ap (λ r. code xs e q ++ arguments xs es r) hr ∙ ap (λ q. code xs e q ++ arguments xs es (q + length (code xs e q))) (let z : q ≡ p = omega arith in z)

length-listed : (role : Role) (xs : List ℕ) (es : Exps) (p : ℕ) → length (listed role xs es p) ≡ listed_weight role es
length-listed Part xs es p = length_rest xs es p
length-listed Argument xs es p = length-arguments xs es p

listed_weight-more : (role : Role) (e : Exp) (es : Exps) → listed_weight role (cons e es) ≡ length (before role) + weight e + listed_weight role es
listed_weight-more Part e es = omega arith
listed_weight-more Argument e es = omega arith

-- a list of some expressions
record Split (k : ℕ) (es₀ : Exps) : Type 0 where
  e : Exp
  es : Exps
  is : es₀ ≡ cons e es
  many : count es ≡ k - 1

split : {k : ℕ} → 0 < k → (es : Exps) → count es ≡ k → Split k es
split some nil many = absurd (omega arith)
split some (cons e es) many = record { e = e; es = es; is = refl; many = omega arith }

-- no instruction is written or passed with a cell
past_end : {w v : Writer} → Passed w v 1 0 → v.«end» ≡ w.«end»
past_end past = omega (arith, past.end_is)

-- an instruction in the place that was left open for it
pub put_last : {w v u : Writer} {p : ℕ} {x : Instr} → Passed w v 0 1 → p ≡ w.«end» → Put v u p x → Emitted w u 0 (x ∷ [])
put_last {w} {v} {u} {p} {x} past p_is put =
    record {
      next_is = omega (arith, past.next_is, put.next_is);
      end_is = omega (arith, past.end_is, put.end_is);
      wrote = record {
        kept = record { same_bytes = put.wrote.kept.same_bytes ∙ past.kept.same_bytes; same_count = put.wrote.kept.same_count ∙ past.kept.same_count };
        bytes_are = put.wrote.bytes_are ∙ (λ i. written (past.kept.same_count i) (past.bytes_are i) (p_is i) (x ∷ []));
      };
    }

module _ (s : Source) where
  abbrev xs : List ℕ
  xs = names s

  -- what the translation of an expression tells, and of a list
  abbrev Told : Writer → Writer → Exp → Type 0
  Told w w' e = Emitted w w' (length (encode e)) (code xs e w.«end»)

  abbrev ToldList : Role → Writer → Writer → Exps → Type 0
  ToldList role w w' es = Emitted w w' (length (encodes es)) (listed role xs es w.«end»)

  front : (at : ℕ) (A B : List Cell) → CellsIn s.cells at (A ++ B) → CellsIn s.cells at A
  front at A B stand = cells_front (cell_codes s.cells) (cell_operands s.cells) at A B stand

  after : (at : ℕ) (A B : List Cell) (next : ℕ) → CellsIn s.cells at (A ++ B) → next ≡ at + length A → CellsIn s.cells next B
  after at A B next stand h = subst (λ k. CellsIn s.cells k B) (sym h) (cells_back (cell_codes s.cells) (cell_operands s.cells) at A B stand)

  seen : {w : Writer} {c : Cell} → (r : ReadyAs s w c) → View c r.e
  seen {w} {c} r = subst (λ d. View d r.e) (one_cell (first (cell_codes s.cells) (cell_operands s.cells) r.e r.here.stand).0 r.head) (view r.e)

  -- an expression at the front of cells
  leads : {w : Writer} (at : ℕ) (e : Exp) (B : List Cell) → CellsIn s.cells at (encode e ++ B) → w.next ≡ at → w.«end» + weight e ≤ w.count → Here s w e
  leads {w} at e B stand h room = record { stand = subst (λ k. CellsIn s.cells k (encode e)) (sym h) (front at (encode e) B stand); room = room }

  pub begins : {w : Writer} → Ready s w → SomeCell s.cells w.next
  begins r = record { cell = head_of r.e; here = (first (cell_codes s.cells) (cell_operands s.cells) r.e r.here.stand).0 }

  pub ready_as : {w : Writer} {c d : Cell} → CellIn s.cells w.next c → c ≡ d → Ready s w → ReadyAs s w d
  ready_as {w} {c} {d} head is r = record { head = subst (CellIn s.cells w.next) is head; e = r.e; here = r.here }

  pub formal_never : {w : Writer} {x : ℕ} → ReadyAs s w (Formal x) → ⊥
  formal_never r = seen r

  -- an expression has an instruction
  pub some_room : {w v : Writer} {e : Exp} → Passed w v 1 0 → Here s w e → v.«end» < v.count
  some_room {w} {v} {e} past h = omega (arith, past.end_is, past.kept.same_count, h.room, weight_some e)

  ends : {w w' : Writer} (e : Exp) → Told w w' e → w'.«end» ≡ w.«end» + weight e
  ends {w} {w'} e t = omega (arith, t.end_is, length-code xs e w.«end»)

  ends_list : {w w' : Writer} (role : Role) (es : Exps) → ToldList role w w' es → w'.«end» ≡ w.«end» + listed_weight role es
  ends_list {w} {w'} role es t = omega (arith, t.end_is, length-listed role xs es w.«end»)

  -- one expression stands at a cell, and one list of so many: what is told of it is told of each
  emits : {w w' : Writer} {e : Exp} → Here s w e → Told w w' e → Emits s w w'
  emits {w} {w'} {e} h t =
      let one = one_exp (cell_codes s.cells) (cell_operands s.cells) w.next e in
      record {
        kept = t.wrote.kept;
        further = omega (arith, t.next_is, encode_size e, size_some e);
        told = λ f g. subst (Told w w') (one f h.stand g) t;
      }

  one_list : (at : ℕ) (es fs : Exps) → count es ≡ count fs → CellsIn s.cells at (encodes es) → CellsIn s.cells at (encodes fs) → es ≡ fs
  one_list at es fs many x y =
      let m = meet (cell_codes s.cells) (cell_operands s.cells) at (encodes es) (encodes fs) x y in
      let one : BEGIN es ≡ BEGIN fs = unique (BEGIN es) (BEGIN fs) m.left m.right (λ i. Begin (many i) ∷ m.joined i) in
      cc one

  emits_list : {role : Role} {w w' : Writer} {k : ℕ} {es : Exps} → count es ≡ k → HereList s role w es → ToldList role w w' es → EmitsList s role w w' k
  emits_list {role} {w} {w'} {k} {es} many h t =
      record { kept = t.wrote.kept; told = λ fs same g. subst (ToldList role w w') (one_list w.next es fs (many ∙ sym same) h.stand g) t }

  -- ---- one instruction alone

  module _ {w v w₁ : Writer} (past : Passed w v 1 0) where
    alone : {e : Exp} (f : Exp) {x : Instr} → Here s w e → e ≡ f → length (encode f) ≡ 1 → x ∷ [] ≡ code xs f w.«end» → Emitted v w₁ 0 (x ∷ []) → Emits s w w₁
    alone f h is one code_is t = emits (subst (Here s w) is h) (same (cell_then past t) (sym one) code_is)

    pub literal_done : {n : ℤ} → ReadyAs s w (Literal n) → Emitted v w₁ 0 (Push n ∷ []) → Emits s w w₁
    literal_done {n} a t = alone (LITERAL n) a.here (seen a) refl (code_literal xs n w.«end») t

    pub var_done : {x : ℕ} {y : Instr} → ReadyAs s w (Var x) → y ≡ load (place xs x) x → Emitted v w₁ 0 (y ∷ []) → Emits s w w₁
    var_done {x} {y} a y_is t = alone (VAR x) a.here (seen a) refl (ap (λ y. y ∷ []) y_is ∙ code_var xs x w.«end») t

    pub empty_done : {k : ℕ} → k ≡ 0 → ReadyAs s w (Begin k) → Emitted v w₁ 0 (Push (pos 0) ∷ []) → Emits s w w₁
    empty_done none a t = let y = seen a in alone (BEGIN nil) a.here (y.1 ∙ ap BEGIN (no_parts y.0 (y.2 ∙ none))) refl (code_empty xs w.«end») t
      where
        no_parts : (es : Exps) → count es ≡ 0 → es ≡ nil
        no_parts nil many = refl
        no_parts (cons e es) many = absurd (omega arith)

  -- ---- SET

  module _ {w v : Writer} {x : ℕ} (r : ReadyAs s w (Set x)) (past : Passed w v 1 0) where
    abbrev set_a : Exp
    set_a = (seen r).0

    set_here : Here s w (SET x set_a)
    set_here = subst (Here s w) (seen r).1 r.here

    set_part : Here s v set_a
    set_part =
        record {
          stand = subst (λ k. CellsIn s.cells k (encode set_a)) (sym past.next_is) set_here.stand.1;
          room = omega (arith, set_here.room, past.end_is, past.kept.same_count);
        }

    pub set_ready : Ready s v
    set_ready = record { e = set_a; here = set_part }

    module _ {w₁ : Writer} (part : Emits s v w₁) where
      set_told : Told v w₁ set_a
      set_told = part.told set_a set_part.stand

      pub set_room : w₁.«end» < w₁.count
      set_room = omega (arith, set_here.room, past.end_is, past.kept.same_count, part.kept.same_count, ends set_a set_told)

      pub set_done : {w₂ : Writer} {y : Instr} → y ≡ store (place xs x) x → Emitted w₁ w₂ 0 (y ∷ []) → Emits s w w₂
      set_done {w₂} {y} y_is put =
          emits set_here (same (cell_then past (both set_told put (omega (arith, set_room, part.kept.same_count, put.end_is)))) (omega arith)
          ((λ i. code xs set_a (past_end past i) ++ (y_is i ∷ [])) ∙ code_set xs x set_a w.«end»))

  -- ---- IF

  module _ {w v : Writer} (r : ReadyAs s w If) (past : Passed w v 1 0) where
    abbrev if_c : Exp
    if_c = (seen r).0

    abbrev if_a : Exp
    if_a = (seen r).1

    abbrev if_b : Exp
    if_b = (seen r).2

    if_here : Here s w (IF if_c if_a if_b)
    if_here = subst (Here s w) (seen r).3 r.here

    -- room for three parts and two jumps
    if_room : v.«end» + (weight if_c + weight if_a + weight if_b + 2) ≤ v.count
    if_room = omega (arith, if_here.room, past.end_is, past.kept.same_count)

    pub if_test_ready : Ready s v
    if_test_ready = record { e = if_c; here = leads (w.next + 1) if_c (encode if_a ++ encode if_b) if_here.stand.1 past.next_is (omega (arith, if_room)) }

    module _ {w₁ : Writer} (test : Emits s v w₁) where
      if_test_told : Told v w₁ if_c
      unfolding if_test_ready
      if_test_told = test.told if_c if_test_ready.here.stand

      pub if_test_room : w₁.«end» < w₁.count
      if_test_room = omega (arith, if_room, ends if_c if_test_told, test.kept.same_count)

      module _ {v₁ : Writer} (gap : Passed w₁ v₁ 0 1) where
        if_rest : CellsIn s.cells v₁.next (encode if_a ++ encode if_b)
        if_rest = after (w.next + 1) (encode if_c) (encode if_a ++ encode if_b) v₁.next if_here.stand.1 (omega (arith, past.next_is, if_test_told.next_is, gap.next_is))

        pub if_second_ready : Ready s v₁
        if_second_ready =
            record { e = if_a; here = leads v₁.next if_a (encode if_b) if_rest refl (omega (arith, if_room, ends if_c if_test_told, gap.end_is, test.kept.same_count, gap.kept.same_count)) }

        module _ {w₂ : Writer} (second : Emits s v₁ w₂) where
          if_second_told : Told v₁ w₂ if_a
          unfolding if_second_ready
          if_second_told = second.told if_a if_second_ready.here.stand

          if_third_room : w₂.«end» + 1 + weight if_b ≤ w₂.count
          if_third_room = omega (arith, if_room, ends if_c if_test_told, gap.end_is, ends if_a if_second_told, test.kept.same_count, gap.kept.same_count, second.kept.same_count)

          pub if_second_room : w₂.«end» < w₂.count
          if_second_room = omega (arith, if_third_room)

          module _ {v₂ u : Writer} {p : ℕ} (gap₂ : Passed w₂ v₂ 0 1) (put : Put v₂ u p (Jz v₂.«end»)) where
            pub if_third_ready : Ready s u
            if_third_ready =
                record {
                  e = if_b;
                  here = record {
                    stand = after v₁.next (encode if_a) (encode if_b) u.next if_rest (omega (arith, if_second_told.next_is, gap₂.next_is, put.next_is));
                    room = omega (arith, if_third_room, gap₂.end_is, put.end_is, gap₂.kept.same_count, put.wrote.kept.same_count);
                  };
                }

            pub if_done : {w₃ w₄ : Writer} {q : ℕ} → p ≡ w₁.«end» → q ≡ w₂.«end» → Emits s u w₃ → Put w₃ w₄ q (Jump w₃.«end») → Emits s w w₄
            unfolding if_third_ready
            if_done {w₃} {w₄} {q} p_is q_is third put₂ =
                let c = if_c in
                let a = if_a in
                let b = if_b in
                let x = if_test_told in
                let y = if_second_told in
                let z = third.told b if_third_ready.here.stand in
                let to : u.«end» ≡ w₂.«end» + 1 = omega (arith, gap₂.end_is, put.end_is) in
                let counts : w₂.count ≡ v.count = second.kept.same_count ∙ gap.kept.same_count ∙ test.kept.same_count in
                let fits : w₂.«end» + 1 + weight b ≤ v.count = omega (arith, if_third_room, counts) in
                let ys = Jz v₂.«end» ∷ code xs a v₁.«end» in
                let zs = code xs b u.«end» in
                let two : Wrote v u v.«end» (code xs c v.«end» ++ ys) = filled x.wrote (passed_then gap y.wrote) (passed_then gap₂ put.wrote) (p_is ∙ x.end_is) (omega (arith, gap.end_is, p_is)) (omega (arith, fits, y.end_is)) in
                let long : w₂.«end» ≡ v.«end» + length (code xs c v.«end» ++ ys) = omega (arith, x.end_is, gap.end_is, y.end_is, length-append (code xs c v.«end») ys) in
                let all : Emitted v w₄ (length (encode c) + length (encode a) + length (encode b)) ((code xs c v.«end» ++ ys) ++ (Jump w₃.«end» ∷ zs)) =
                record {
                  next_is = omega (arith, x.next_is, gap.next_is, y.next_is, gap₂.next_is, put.next_is, z.next_is, put₂.next_is);
                  end_is = omega (arith, long, to, z.end_is, put₂.end_is, length-append (code xs c v.«end» ++ ys) (Jump w₃.«end» ∷ zs));
                  wrote = filled two z.wrote put₂.wrote (q_is ∙ long) (omega (arith, to, q_is)) (omega (arith, fits, to, length-code xs b u.«end»));
                } in
                emits if_here (same (cell_then past all) (simp length-append (omega arith))
                (code_if xs c a b v.«end» v₁.«end» u.«end» v₂.«end» w₃.«end» (omega (arith, gap.end_is, x.end_is)) (omega (arith, to, y.end_is)) (sym put.end_is) z.end_is ∙ ap (code xs (IF c a b)) (past_end past)))

  -- ---- WHILE

  module _ {w v : Writer} (r : ReadyAs s w While) (past : Passed w v 1 0) where
    abbrev while_c : Exp
    while_c = (seen r).0

    abbrev while_b : Exp
    while_b = (seen r).1

    while_here : Here s w (WHILE while_c while_b)
    while_here = subst (Here s w) (seen r).2 r.here

    -- room for two parts and four instructions
    while_room : v.«end» + (weight while_c + weight while_b + 4) ≤ v.count
    while_room = omega (arith, while_here.room, past.end_is, past.kept.same_count)

    pub while_test_ready : Ready s v
    while_test_ready = record { e = while_c; here = leads (w.next + 1) while_c (encode while_b) while_here.stand.1 past.next_is (omega (arith, while_room)) }

    module _ {w₁ : Writer} (test : Emits s v w₁) where
      while_test_told : Told v w₁ while_c
      unfolding while_test_ready
      while_test_told = test.told while_c while_test_ready.here.stand

      pub while_test_room : w₁.«end» < w₁.count
      while_test_room = omega (arith, while_room, ends while_c while_test_told, test.kept.same_count)

      module _ {v₁ : Writer} (gap : Passed w₁ v₁ 0 1) where
        pub while_body_ready : Ready s v₁
        while_body_ready =
            record {
              e = while_b;
              here = record {
                stand = after (w.next + 1) (encode while_c) (encode while_b) v₁.next while_here.stand.1 (omega (arith, past.next_is, while_test_told.next_is, gap.next_is));
                room = omega (arith, while_room, ends while_c while_test_told, gap.end_is, test.kept.same_count, gap.kept.same_count);
              };
            }

        module _ {w₂ : Writer} (body : Emits s v₁ w₂) where
          while_body_told : Told v₁ w₂ while_b
          unfolding while_body_ready
          while_body_told = body.told while_b while_body_ready.here.stand

          pub while_body_room : w₂.«end» + 3 ≤ w₂.count
          while_body_room = omega (arith, while_room, ends while_c while_test_told, gap.end_is, ends while_b while_body_told, test.kept.same_count, gap.kept.same_count, body.kept.same_count)

          pub while_done : {w₃ w₄ w₅ w₆ : Writer} {k p j : ℕ} → k ≡ w.«end» → p ≡ w₁.«end» → Emitted w₂ w₃ 0 (Pop ∷ []) → Emitted w₃ w₄ 0 (Jump k ∷ []) → Put w₄ w₅ p (Jz j) → j ≡ w₄.«end» → Emitted w₅ w₆ 0 (Push (pos 0) ∷ []) → Emits s w w₆
          while_done {w₃} {w₄} {w₅} {w₆} {k} {p} {j} k_is p_is pop jump put j_is push =
              let c = while_c in
              let b = while_b in
              let x = while_test_told in
              let y = while_body_told in
              let counts : w₂.count ≡ v.count = body.kept.same_count ∙ gap.kept.same_count ∙ test.kept.same_count in
              let back : Emitted v₁ w₄ (length (encode b)) (code xs b v₁.«end» ++ (Pop ∷ Jump k ∷ [])) =
              same (both y (both pop jump (omega (arith, while_body_room, pop.end_is, jump.end_is))) (omega (arith, while_body_room, pop.end_is, jump.end_is, body.kept.same_count))) (omega arith) refl in
              let ys = Jz j ∷ (code xs b v₁.«end» ++ (Pop ∷ Jump k ∷ [])) in
              let all : Emitted v w₅ (length (encode c) + length (encode b)) (code xs c v.«end» ++ ys) =
              record {
                next_is = omega (arith, x.next_is, gap.next_is, back.next_is, put.next_is);
                end_is = omega (arith, x.end_is, gap.end_is, back.end_is, put.end_is, length-append (code xs c v.«end») ys);
                wrote = filled x.wrote (passed_then gap back.wrote) put.wrote (p_is ∙ x.end_is) (omega (arith, gap.end_is, p_is)) (omega (arith, while_body_room, pop.end_is, jump.end_is, back.end_is, counts));
              } in
              emits while_here (same (cell_then past (both all push (omega (arith, while_body_room, pop.end_is, jump.end_is, put.end_is, push.end_is, counts)))) (simp length-append (omega arith))
              (code_while xs c b v.«end» v₁.«end» j k (omega (arith, gap.end_is, x.end_is)) (omega (arith, j_is, y.end_is, pop.end_is, jump.end_is)) (k_is ∙ sym (past_end past)) ∙ ap (code xs (WHILE c b)) (past_end past)))

  -- ---- lists

  pub list_none : {role : Role} {w : Writer} {k : ℕ} → k ≡ 0 → EmitsList s role w w k
  list_none {role} {w} {k} none = record { kept = (nothing {w = w}).wrote.kept; told = λ es many h. go es many }
    where
      go : (es : Exps) → count es ≡ k → ToldList role w w es
      go nil many = same nothing refl (code_none role xs w.«end»)
      go (cons e es) many = absurd (omega arith)

  module _ {role : Role} {w : Writer} {k : ℕ} (some : 0 < k) (r : ReadyList s role w k) where
    list_split : Split k r.es
    list_split = split some r.es r.many

    abbrev list_e : Exp
    list_e = list_split.e

    abbrev list_es : Exps
    list_es = list_split.es

    list_here : HereList s role w (cons list_e list_es)
    list_here = subst (HereList s role w) list_split.is r.here

    list_weight : w.«end» + (length (before role) + weight list_e + listed_weight role list_es) ≤ w.count
    list_weight = omega (arith, list_here.room, listed_weight-more role list_e list_es)

    module _ {v : Writer} (begin : Emitted w v 0 (before role)) where
      pub list_first_ready : Ready s v
      list_first_ready = record { e = list_e; here = leads w.next list_e (encodes list_es) list_here.stand (omega (arith, begin.next_is)) (omega (arith, list_weight, begin.end_is, begin.wrote.kept.same_count)) }

      module _ {w₁ : Writer} (first : Emits s v w₁) where
        list_first_told : Told v w₁ list_e
        unfolding list_first_ready
        list_first_told = first.told list_e list_first_ready.here.stand

        pub list_rest_ready : ReadyList s role w₁ (k - 1)
        list_rest_ready =
            record {
              es = list_es;
              many = list_split.many;
              here = record {
                stand = after w.next (encode list_e) (encodes list_es) w₁.next list_here.stand (omega (arith, begin.next_is, list_first_told.next_is));
                room = omega (arith, list_weight, begin.end_is, ends list_e list_first_told, begin.wrote.kept.same_count, first.kept.same_count);
              };
            }

        pub list_done : {w₂ : Writer} → EmitsList s role w₁ w₂ (k - 1) → EmitsList s role w w₂ k
        unfolding list_rest_ready
        list_done {w₂} others =
            let x = list_first_told in
            let y = others.told list_es list_split.many list_rest_ready.here.stand in
            let fits : w₂.«end» ≤ w.count = omega (arith, list_weight, begin.end_is, ends list_e x, ends_list role list_es y) in
            emits_list (ap count (sym list_split.is) ∙ r.many) list_here (same (both begin (both x y (omega (arith, begin.wrote.kept.same_count))) fits) (simp length-append (omega arith)) (code_more role xs list_e list_es w.«end» v.«end» w₁.«end» begin.end_is x.end_is))

  -- ---- BEGIN

  module _ {w v : Writer} {k : ℕ} (some : 0 < k) (r : ReadyAs s w (Begin k)) (past : Passed w v 1 0) where
    parts : Split k (seen r).0
    parts = split some (seen r).0 (seen r).2

    parts_here : Here s w (BEGIN (cons parts.e parts.es))
    parts_here = subst (λ es. Here s w (BEGIN es)) parts.is (subst (Here s w) (seen r).1 r.here)

    pub begin_first_ready : Ready s v
    begin_first_ready =
        record { e = parts.e; here = leads (w.next + 1) parts.e (encodes parts.es) parts_here.stand.1 past.next_is (omega (arith, parts_here.room, past.end_is, past.kept.same_count)) }

    module _ {w₁ : Writer} (first : Emits s v w₁) where
      begin_first_told : Told v w₁ parts.e
      unfolding begin_first_ready
      begin_first_told = first.told parts.e begin_first_ready.here.stand

      pub begin_rest_ready : ReadyList s Part w₁ (k - 1)
      begin_rest_ready =
          record {
            es = parts.es;
            many = parts.many;
            here = record {
              stand = after (w.next + 1) (encode parts.e) (encodes parts.es) w₁.next parts_here.stand.1 (omega (arith, past.next_is, begin_first_told.next_is));
              room = omega (arith, parts_here.room, past.end_is, ends parts.e begin_first_told, past.kept.same_count, first.kept.same_count);
            };
          }

      pub begin_done : {w₂ : Writer} → EmitsList s Part w₁ w₂ (k - 1) → Emits s w w₂
      unfolding begin_rest_ready
      begin_done {w₂} others =
          let x = begin_first_told in
          let ready = begin_rest_ready in
          let y = others.told parts.es parts.many ready.here.stand in
          emits parts_here (same (cell_then past (both x y (omega (arith, ready.here.room, ends_list Part parts.es y, first.kept.same_count)))) (simp length-append (omega arith))
          (code_begin xs parts.e parts.es v.«end» w₁.«end» x.end_is ∙ ap (code xs (BEGIN (cons parts.e parts.es))) (past_end past)))

  -- ---- APPLY

  module _ {w v : Writer} {f k : ℕ} (r : ReadyAs s w (Apply f k)) (past : Passed w v 1 0) where
    abbrev apply_es : Exps
    apply_es = (seen r).0

    apply_here : Here s w (APPLY f apply_es)
    apply_here = subst (Here s w) (seen r).1 r.here

    module _ {w₁ : Writer} (find : Emitted v w₁ 0 (Find f ∷ [])) where
      pub apply_list_ready : ReadyList s Argument w₁ k
      apply_list_ready =
          record {
            es = apply_es;
            many = (seen r).2;
            here = record {
              stand = subst (λ k. CellsIn s.cells k (encodes apply_es)) (omega (arith, past.next_is, find.next_is)) apply_here.stand.1;
              room = omega (arith, apply_here.room, past.end_is, find.end_is, past.kept.same_count, find.wrote.kept.same_count);
            };
          }

      module _ {w₂ : Writer} (list : EmitsList s Argument w₁ w₂ k) where
        apply_told : ToldList Argument w₁ w₂ apply_es
        unfolding apply_list_ready
        apply_told = list.told apply_es (seen r).2 apply_list_ready.here.stand

        pub apply_room : w₂.«end» < w₂.count
        apply_room =
            omega (arith, apply_here.room, past.end_is, find.end_is, ends_list Argument apply_es apply_told, past.kept.same_count, find.wrote.kept.same_count, list.kept.same_count)

        pub apply_done : {w₃ : Writer} → Emitted w₂ w₃ 0 (Call f k ∷ []) → Emits s w w₃
        apply_done {w₃} call =
            let x = apply_told in
            let fits : w₃.«end» ≤ v.count = omega (arith, apply_room, call.end_is, find.wrote.kept.same_count, list.kept.same_count) in
            emits apply_here (same (cell_then past (both find (both x call (omega (arith, find.wrote.kept.same_count))) fits)) (omega arith)
            ((λ i. Find f ∷ (arguments xs apply_es w₁.«end» ++ (Call f (sym (seen r).2 i) ∷ []))) ∙ code_apply xs f apply_es v.«end» w₁.«end» find.end_is ∙ ap (code xs (APPLY f apply_es)) (past_end past)))
