-- The pass over the code.
use Rattle.std.proofs.Common.{◌≡◌, ℕ, zero, suc, [], ◌∷◌, ◌+◌, ◌<◌, ◌≤◌, List, ◌++◌, map, length, get_or, take, Some, None, Option, sym, refl, ap, ◌∙◌, subst, inl, inr, arith}
use mathlib.Core.List.{map-map, map-id}
use Rattle.std.proofs.Math.ListN.{length-map}
use Rattle.std.proofs.Math.Seq.{take-append_seam}
use Rattle.std.proofs.lemmas.List.{get_or_default}
use Rattle.std.proofs.lemmas.Bool.Decides.{eqb_tells}
use Rattle.format.specs.declared.instr.Instr.{Instr}
use Rattle.format.specs.declared.instr.Instr.TheVariants.{Pop}
use Rattle.format.specs.Heights as heights
use Rattle.format.specs.Heights.{needs, leaves, GoesTo, At, Reaches}
use Rattle.listing.specs.declared.Line.{Line}
use Rattle.listing.specs.Lines.{instrs_in, heights_in}
use Rattle.listing.specs.Passes.{Tells, Unknown, Adds, Notes, Here, Stepped}
use Rattle.listing.proofs.Heights.{one_each}
use Rattle.listing.specs.Lists.{Sound, Level, Forward, start, step, Complete}

-- the lines before instruction c is followed
pub record Passed (code : List Instr) (c : ℕ) (lines : List Line) : Type 0 where
  pub instrs : instrs_in lines ≡ code
  pub sound : Sound code (heights_in lines)
  pub first : 0 < length code → Tells (heights_in lines) 0 0
  pub onward : Level code → (p q h : ℕ) (i : Instr) → p < c → Forward code p (needs i + h) → At code p i → GoesTo i p q → p < q → leaves i + h < 65536 → q < length code → Tells (heights_in lines) q (leaves i + h)

forward_reaches : {code : List Instr} {p h : ℕ} → Forward code p h → Reaches code p h
forward_reaches start = heights.start
forward_reaches (step h from at goes later small) = heights.step h (forward_reaches from) at goes

stands : (code : List Instr) (p : ℕ) (d : Instr) → p < length code → At code p (get_or code p d)
stands code p d within = record { within = within; is = get_or_default code p (get_or code p d) d within }

at_same : (code : List Instr) (p : ℕ) (i j : Instr) → At code p i → At code p j → i ≡ j
at_same code p i j at_i at_j = sym at_i.is ∙ get_or_default code p i j at_i.within ∙ at_j.is

-- what is reached forward no later than c is known
told_to : {code : List Instr} {q h : ℕ} (c : ℕ) (lines : List Line) → Passed code c lines → Level code → q ≤ c → q < length code → Forward code q h → Tells (heights_in lines) q h
told_to c lines passed level near within start = passed.first within
told_to c lines passed level near within (step {p = p} {q = q} {i = i} h from at goes later small) =
    passed.onward level p q h i (omega arith) from at goes later small within

sound_more : (code : List Instr) (c : ℕ) (i : Instr) (hs more : List (Option ℕ)) → At code c i → Adds (Stepped hs i c) hs more → Sound code hs → Sound code more
sound_more code c i hs more at adds sound p h told = elim (adds.only p h told) [
  | inl was ↦ sound p h was
  | inr new ↦ let a = new.after in
      rw a.after_is (heights.step a.rest (subst (Reaches code c) a.before_is (sound c new.height new.told)) at new.goes)
]

-- the heights that instruction i at p gives
onward_here : (code : List Instr) (p q h : ℕ) (i : Instr) (hs more : List (Option ℕ)) → length hs ≡ length code → Adds (Stepped hs i p) hs more → Sound code more → Level code → Tells hs p (needs i + h) → Reaches code p (needs i + h) → At code p i → GoesTo i p q → leaves i + h < 65536 → q < length code → Tells more q (leaves i + h)
onward_here code p q h i hs more long adds sound level told from at goes small within =
    let new : Stepped hs i p q (leaves i + h) = record { height = needs i + h; told = told; after = record { rest = h; before_is = refl; after_is = refl }; small = small; goes = goes } in
    let got = adds.known q (leaves i + h) new (omega arith) in
    got.1 ∙ ap Some (level q got.0 (leaves i + h) (sound q got.0 got.1) (heights.step h from at goes))

pub pass_more : (code : List Instr) (c : ℕ) (lines more : List Line) → c < length lines → ((i : Instr) → At (instrs_in lines) c i → Notes (Stepped (heights_in lines) i c) lines more) → Passed code c lines → Passed code (c + 1) more
pass_more code c lines more within follow passed =
    let i : Instr = get_or code c Pop in
    let at : At code c i = stands code c Pop (omega (arith, ap length passed.instrs, length-map lines (λ (l : Line). l.instr))) in
    let notes : Notes (Stepped (heights_in lines) i c) lines more = follow i (rw passed.instrs at) in
    let adds = notes.heights in
    let sound : Sound code (heights_in more) = sound_more code c i (heights_in lines) (heights_in more) at adds passed.sound in
    record {
      instrs = notes.instrs ∙ passed.instrs;
      sound = sound;
      first = λ some. adds.kept 0 0 (passed.first some);
      onward = λ level p q h j before from at_p goes later small inside. elim (eqb_tells p c) [
        | inl e ↦
            let is : j ≡ i = at_same code p j i at_p (rw e.1 at) in
            let here : Adds (Stepped (heights_in lines) j p) (heights_in lines) (heights_in more) = rw (is, e.1) adds in
            let told : Tells (heights_in lines) p (needs j + h) = told_to c lines passed level (omega (arith, e.1)) at_p.within from in
            onward_here code p q h j (heights_in lines) (heights_in more) (one_each lines ∙ ap length passed.instrs) here sound level told (forward_reaches from) at_p goes small inside
        | inr n ↦ adds.kept q (leaves j + h) (passed.onward level p q h j (omega (arith, n.1)) from at_p goes later small inside)
      ];
    }

pub pass_whole : (code : List Instr) (c : ℕ) (lines : List Line) → length lines ≤ c → Passed code c lines → Complete code (heights_in lines)
pass_whole code c lines past passed level p h within from =
    told_to c lines passed level (omega (arith, within, ap length passed.instrs, length-map lines (λ (l : Line). l.instr))) within from

-- a line whose height is not known
abbrev pub unknown : Instr → Line
unknown i = record { instr = i; height = None }

pub none_told : (code : List Instr) (k h : ℕ) → Tells (heights_in (map unknown code)) k h → ⊥
none_told [] k h told = cc
none_told (i ∷ code) zero h told = cc
none_told (i ∷ code) (suc k) h told = none_told code k h told

-- the instructions of such lines are those that they are made of
pub instrs_unknown : (code : List Instr) → instrs_in (map unknown code) ≡ code
instrs_unknown code = map-map (λ (l : Line). l.instr) unknown code ∙ map-id code

-- the start: the height 0 at the first instruction, and nowhere else
pub pass_none : (code : List Instr) (lines more : List Line) → instrs_in lines ≡ code → Unknown lines → Notes (Here 0 0) lines more → Passed code 0 more
pass_none code lines more same none notes =
    let adds = notes.heights in
    record {
      instrs = notes.instrs ∙ same;
      sound = λ p h told. elim (adds.only p h told) [ inl was ↦ absurd (none p h was) | inr here ↦ rw (here.0, here.1) heights.start ];
      first = λ some.
          let got = adds.known 0 0 (refl, refl) (omega (arith, some, one_each lines, ap length same)) in
          elim (adds.only 0 got.0 got.1) [ inl was ↦ absurd (none 0 got.0 was) | inr here ↦ got.1 ∙ ap Some here.1 ];
      onward = λ level p q h i before from at goes later small within. absurd (omega (arith, before));
    }

-- the same of a Vec whose slice was written
pub in_vec : (code : List Instr) (c n : ℕ) (lines rest : List Line) → length lines ≡ n → Passed code c lines → Passed code c (take n (lines ++ rest))
in_vec code c n lines rest long passed = rw (← long, take-append_seam lines rest) passed
