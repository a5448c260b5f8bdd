-- The instructions of an image, read one after the other.
use Rattle.std.proofs.Common.{◌≡◌, ℕ, ◌<◌, inl, inr, List, length, get_or, sym, ap, ◌∙◌, refl, arith, Option, Some, None, MatchOption, IsSome, true, vec_len, Vec, Result, Ok, Err, IfOk, zero-add}
use Rattle.std.proofs.Math.ListN.{get_or-map, length-map}
use Rattle.std.proofs.lemmas.Bool.{cases_lt}
use Rattle.std.proofs.lemmas.List.{get_or_past}
use Rattle.std.proofs.lemmas.Iterator.Adapters.{option_map_id}
use Rattle.std.specs.Iterator.Runs.{Run, RelatesRuns, ItemsCountUp, WholeRun}
use Rattle.std.specs.declared.alloc.Global.{Global}
use Rattle.format.specs.declared.header.Header.{Header}
use Rattle.format.specs.declared.image.Image.{Image}
use Rattle.format.specs.declared.instr.Instr.{Instr}
use Rattle.format.specs.declared.instr.Instr.TheVariants.{Pop}
use Rattle.format.specs.Images.{NoInstrAt, InstrAt, codes_of_image, operands_of_image, EachInstr}
use Rattle.listing.specs.declared.Line.{Line}
use Rattle.listing.specs.Lines.{instrs_in}
use Rattle.listing.specs.Passes.{Unknown}
use Rattle.listing.specs.Images.{Decodes}
use Rattle.listing.proofs.Passing.{unknown}

-- an instruction is found at each place of an image that was read
pub found : (image given : Image) (i : ℕ) (o : Option Instr) → given ≡ image → EachInstr image → i < length (codes_of_image image) → MatchOption o (NoInstrAt (codes_of_image given) (operands_of_image given) given.header i) (InstrAt (codes_of_image given) (operands_of_image given) given.header i) → IsSome o
found image given i (Some x) same all within at = refl
found image given i None same all within none = let there = all i within in absurd (rw same at none there.instr there.here)

-- what a closure answers at each number from 0
pub decodes : {S T : Type 0} {steps : S → Option Line → S → Type 0} {source : T → Option ℕ → T → Type 0} (R : ℕ → Line → Type 0) (codes operands : List ℕ) (h : Header) (p : Run steps) (q : Run source) → ItemsCountUp q 0 (length codes) → p.whole ≡ true → q.whole ≡ p.whole → p.len ≡ q.len → RelatesRuns p q R → ((k : ℕ) (x : Line) → R k x → InstrAt codes operands h k x.instr × (x.height ≡ None)) → Decodes codes operands h (instrs_in p.items) × Unknown p.items
decodes R codes operands h p q up whole wholes long related means =
    let many : length p.items ≡ length codes = let m = up.1 (wholes ∙ whole) in omega (arith, p.long) in
    let d : Line = unknown Pop in
    let at : (k : ℕ) → k < length codes → InstrAt codes operands h k (get_or p.items k d).instr × ((get_or p.items k d).height ≡ None) =
    λ k within.
    let given : q.at k ≡ Some k = sym (option_map_id (q.at k)) ∙ up.3 k (omega arith) ∙ ap Some (zero-add k) in
    let got : p.at k ≡ Some (get_or p.items k d) = sym (option_map_id (p.at k)) ∙ p.reads k d (omega arith) in
    means k (get_or p.items k d) (rw (given, got) at (related.0 k)) in
    let none : (k : ℕ) → (get_or p.items k d).height ≡ None =
    λ k. elim (cases_lt k (length codes)) [
      | inl within ↦ (at k within).1
      | inr past ↦ ap (λ (l : Line). l.height) (get_or_past p.items k d (omega arith))
    ] in (
      record {
        many = length-map p.items (λ (l : Line). l.instr) ∙ many;
        each = λ k within. rw (get_or-map (λ (l : Line). l.instr) p.items k d) (at k within).0;
      },
      λ k h told. let z : Some h ≡ None = sym told ∙ get_or-map (λ (l : Line). l.height) p.items k d ∙ none k in cc z,
    )

-- the Vec holds what the closure answered
pub collected : {S E : Type 0} {steps : S → Option Line → S → Type 0} {s : S} (codes operands : List ℕ) (h : Header) (r : Result (Vec Line Global) E) → IfOk r (λ v. Unit {0} → WholeRun steps s (λ p. (v.items ≡ p.items) × (vec_len v ≡ length p.items))) → ((p : Run steps) → p.from ≡ s → p.whole ≡ true → Decodes codes operands h (instrs_in p.items) × Unknown p.items) → IfOk r (λ v. Decodes codes operands h (instrs_in v.items) × Unknown v.items)
collected codes operands h (Ok v) got all = let p = got tt in rw p.3.0 (all p.0 p.1 p.2)
collected codes operands h (Err e) got all = tt
