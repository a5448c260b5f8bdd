-- What each answer of `translate` rests on, and that there is one only.
use Rattle.std.proofs.Common.{◌≡◌, ℕ, ◌+◌, ◌*◌, ◌<◌, ◌≤◌, List, ◌++◌, map, length, drop, Ok, Err, Result, sym, refl, ap, ◌∙◌, subst, arith, length-append}
use Rattle.std.proofs.lemmas.List.{length-map}
use Rattle.language.specs.Tree.{Definition, body, formals}
use Rattle.language.specs.Limits.{Within}
use Rattle.format.specs.declared.cell.Cell.TheVariants.{Formal}
use Rattle.format.specs.declared.refusal.Refusal.{Refusal}
use Rattle.format.specs.declared.refusal.Refusal.TheVariants.{Short}
use Rattle.format.specs.Refusals.{Told, told}
use Rattle.format.specs.Layout.{operand_bytes, operands_in}
use Rattle.translator.specs.InCells.{cell_codes, cell_operands}
use Rattle.format.specs.Cells.{encode, cells}
use Rattle.format.specs.Instrs.{code as code_of, operand}
use Rattle.translator.specs.declared.table.Table.{Table}
use Rattle.translator.specs.Reading.{CellsAt}
use Rattle.translator.specs.Verdict.{Refused, NoTable, Accepted}
use Rattle.translation.specs.Translation.{instrs, image}
use Rattle.translation.specs.Imaging.{Holds, HoldsSome, Imaged}
use Rattle.translation.specs.Outcome.{Sizes, Translated, Cause, TABLE, SHORT, Refuses, Outcome, answer, Translates}
use Rattle.translator.proofs.Trees.{encode_size, weight_bound, height_some, height_bound}
use Rattle.translation.proofs.Coding.{length-instrs}
use Rattle.format.proofs.Bytes.{length-operands}
use Rattle.translator.proofs.Facts.{is_table, facts, one_definition}
use Rattle.translator.proofs.Only.{one_refusal}

length-image : (d : Definition) → length (image d) ≡ 8 + 5 * length (instrs d)
length-image d =
    let codes = map code_of (instrs d) in
    let operands = operand_bytes (map operand (instrs d)) in
    omega (arith, length-append codes operands, length-map (instrs d) code_of, length-operands (map operand (instrs d)), length-map (instrs d) operand)

length-cells : (d : Definition) → length (cells d) ≡ length (formals d) + length (encode (body d))
length-cells d = length-append (map Formal (formals d)) (encode (body d)) ∙ omega (arith, length-map (formals d) Formal)

sizes_of : (d : Definition) → Within d → Sizes d
sizes_of d w =
    let many = length-instrs d in
    let size_is = encode_size (body d) in
    let sized = w.fits.sized in
    record {
      three = omega (arith, length-cells d, weight_bound (body d));
      some = omega arith;
      few = omega (arith, weight_bound (body d));
      high = height_some (body d);
      low = omega (arith, height_bound (body d));
    }

module _ (t : List ℕ) (r : Table) (a : Accepted t r) where
  abbrev d : Definition
  d = a.definition

  counted : r.count ≡ length (instrs d)
  counted = a.counted ∙ sym (length-instrs d)

  stand : CellsAt (cell_codes r.cells) (cell_operands r.cells) 0 (cells d)
  stand =
      subst (λ l. CellsAt (cell_codes r.cells) l 0 (cells d)) (sym a.operands) (subst (λ l. CellsAt l (operands_in t) 0 (cells d)) (sym a.codes) (facts (is_table a.within a.is)).stand)

  holds : Holds r d
  holds =
      record {
        header = a.header;
        few = a.within.fits.few;
        stand = stand;
        counted = counted;
        short = omega (arith, counted, (sizes_of d a.within).few);
        high = a.high;
      }

  pub holds_some : HoldsSome r
  holds_some = record { d = d; holds = holds }

  pub translated : (out out' : List ℕ) (len : ℕ) → len ≡ 8 + 5 * r.count → len ≤ length out → Imaged r out out' → Translated t out out' len
  translated out out' len long room m =
      record {
        definition = d;
        within = a.within;
        is = a.is;
        long = omega (arith, long, length-image d, counted);
        fits = room;
        after = m.told d holds ∙ ap (λ k. image d ++ drop k out) (sym long);
        sizes = sizes_of d a.within;
      }

  pub too_short : (out : List ℕ) (len : ℕ) → len ≡ 8 + 5 * r.count → length out < len → Refuses t out out Short
  too_short out len long room = record { cause = SHORT a.within a.is (omega (arith, long, length-image d, counted)); same = refl }

pub refuses : (t out : List ℕ) (e : Refusal) → Refused t (told e) → NoTable t → Refuses t out out e
refuses t out e why none = record { cause = TABLE why none; same = refl }

-- ---- one answer only

module _ (t out : List ℕ) where
  no_cause : {u : List ℕ} {len : ℕ} {w : Told} → Translated t out u len → Cause t out w → ⊥
  no_cause x (TABLE why none) = none x.definition x.within x.is
  no_cause x (SHORT {d} within is short) =
      let same : x.definition ≡ d = one_definition (is_table x.within x.is) (is_table within is) in
      omega (arith, x.fits, x.long, ap (λ d. length (image d)) same)

  one_cause : {v w : Told} → Cause t out v → Cause t out w → v ≡ w
  one_cause (TABLE why none) (TABLE why' none') = one_refusal t why why'
  one_cause (TABLE why none) (SHORT {d} within is short) = absurd (none d within is)
  one_cause (SHORT {d} within is short) (TABLE why none) = absurd (none d within is)
  one_cause (SHORT within is short) (SHORT within' is' short') = refl

  same_definition : {u v : List ℕ} {m n : ℕ} → (x : Translated t out u m) (y : Translated t out v n) → x.definition ≡ y.definition
  same_definition x y = one_definition (is_table x.within x.is) (is_table y.within y.is)

  same_answer : (r s : Result ℕ Refusal) (u v : List ℕ) → Outcome t out u r → Outcome t out v s → answer s ≡ answer r
  same_answer (Ok m) (Ok n) u v x y = ap Ok (y.long ∙ ap (λ d. length (image d)) (sym (same_definition x y)) ∙ sym x.long)
  same_answer (Ok m) (Err e) u v x y = absurd (no_cause x y.cause)
  same_answer (Err e) (Ok n) u v x y = absurd (no_cause y x.cause)
  same_answer (Err e) (Err f) u v x y = ap Err (one_cause y.cause x.cause)

  same_memory : (r s : Result ℕ Refusal) (u v : List ℕ) → Outcome t out u r → Outcome t out v s → v ≡ u
  same_memory (Ok m) (Ok n) u v x y =
      let same = same_definition x y in
      let lens : n ≡ m = y.long ∙ ap (λ d. length (image d)) (sym same) ∙ sym x.long in
      y.after ∙ (λ i. image (sym same i) ++ drop (lens i) out) ∙ sym x.after
  same_memory (Ok m) (Err e) u v x y = absurd (no_cause x y.cause)
  same_memory (Err e) (Ok n) u v x y = absurd (no_cause y x.cause)
  same_memory (Err e) (Err f) u v x y = y.same ∙ sym x.same

  pub translates : {u : List ℕ} {r : Result ℕ Refusal} → Outcome t out u r → Translates t out u r
  translates {u} {r} x = record { outcome = x; sole = record { same_answer = λ s v. same_answer r s u v x; same_memory = λ s v. same_memory r s u v x } }
