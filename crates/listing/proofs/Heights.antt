-- Heights after an instruction, and heights noted.
use Rattle.std.proofs.Common.{◌≡◌, ℕ, ◌+◌, ◌<◌, ◌⊎◌, List, length, get_or, set, Some, None, Option, sym, refl, ◌∙◌, ap, inl, inr, arith, get_or-set_same}
use Rattle.std.proofs.Math.ListN.{get_or-map, length-map}
use Rattle.std.proofs.Math.Seq.{map-set_same}
use Rattle.std.proofs.lemmas.Grind.{common_steps}
use Rattle.std.proofs.lemmas.List.{map-set}
use Rattle.std.proofs.lemmas.List as list
use Rattle.std.specs.Option.{unwrap_or}
use Rattle.format.specs.declared.instr.Instr.{Instr}
use Rattle.format.specs.declared.instr.Instr.TheVariants.{Push, LoadF, LoadG, StoreF, StoreG, Pop, Jump, Jz, Find, Call, Ret, Bind}
use Rattle.format.specs.Heights.{At}
use Rattle.listing.specs.declared.Line.{Line}
use Rattle.listing.specs.Lines.{instrs_in, heights_in}
use Rattle.listing.specs.Passes.{Tells, After, NoneAfter, Adds, Notes, Here, Onward, Stepped}

-- each line has an instruction and a height
pub one_each : (lines : List Line) → length (heights_in lines) ≡ length (instrs_in lines)
one_each lines = length-map lines (λ (l : Line). l.height) ∙ sym (length-map lines (λ (l : Line). l.instr))

-- a height is noted at a place, unless it has one
adds_here : (heights : List (Option ℕ)) (place height : ℕ) → place < length heights → Adds (Here place height) heights (set heights place (Some (unwrap_or (get_or heights place None) height)))
adds_here heights place height within =
    let got : ℕ = unwrap_or (get_or heights place None) height in
    let at : Tells (set heights place (Some got)) place got = get_or-set_same heights place (Some got) None within in
    record {
      kept = λ k h told. grind (arith, common_steps);
      only = λ k h told. grind (arith, common_steps);
      known = λ k h here inside. (got, rw here.0 at);
    }

-- the same of a line
pub notes_here : (lines : List Line) (place height got : ℕ) (x : Instr) → place < length lines → got ≡ unwrap_or (get_or lines place (record { instr = x; height = None })).height height → Notes (Here place height) lines (set lines place (record { instr = (get_or lines place (record { instr = x; height = None })).instr; height = Some got }))
notes_here lines place height got x within is =
    let none : Line = record { instr = x; height = None } in
    let line : Line = get_or lines place none in
    let was : get_or (heights_in lines) place None ≡ line.height = get_or-map (λ (l : Line). l.height) lines place none in
    let new : Line = record { instr = line.instr; height = Some got } in
    record {
      instrs = map-set_same (λ (l : Line). l.instr) lines place new none refl;
      heights = rw (map-set (λ (l : Line). l.height) lines place new, is, ← was) (adds_here (heights_in lines) place height (omega (arith, length-map lines (λ (l : Line). l.height))));
    }

-- the two places where control goes from a JZ
pub notes_both : (a b height : ℕ) (before between after : List Line) → Notes (Here a height) before between → Notes (Here b height) between after → Notes (λ k h. ((k ≡ a) ⊎ (k ≡ b)) × (h ≡ height)) before after
notes_both a b height before between after one two =
    let first = one.heights in
    let second = two.heights in
    let long : length (heights_in between) ≡ length (heights_in before) = one_each between ∙ ap length one.instrs ∙ sym (one_each before) in
    record {
      instrs = two.instrs ∙ one.instrs;
      heights = record {
        kept = λ k h told. second.kept k h (first.kept k h told);
        only = λ k h told. grind (arith, first.only k h, second.only k h told);
        known = λ k h there within. elim there.0 [
          | inl at_a ↦ let got = first.known k h (at_a, there.1) within in (got.0, second.kept k got.0 got.1)
          | inr at_b ↦ second.known k h (at_b, there.1) (omega arith)
        ];
      };
    }

-- the other instructions, from which control goes to the next
pub notes_next : (i : Instr) (p height : ℕ) (before after : List Line) → ((t : ℕ) → i ≡ Jump t → ⊥) → ((t : ℕ) → i ≡ Jz t → ⊥) → (i ≡ Ret → ⊥) → ((x : ℕ) → i ≡ Bind x → ⊥) → Notes (Here (p + 1) height) before after → Notes (Onward i p height) before after
notes_next (Push v) p height before after no_jump no_jz no_ret no_bind next = next
notes_next (LoadF x) p height before after no_jump no_jz no_ret no_bind next = next
notes_next (LoadG x) p height before after no_jump no_jz no_ret no_bind next = next
notes_next (StoreF x) p height before after no_jump no_jz no_ret no_bind next = next
notes_next (StoreG x) p height before after no_jump no_jz no_ret no_bind next = next
notes_next Pop p height before after no_jump no_jz no_ret no_bind next = next
notes_next (Jump t) p height before after no_jump no_jz no_ret no_bind next = absurd (no_jump t refl)
notes_next (Jz t) p height before after no_jump no_jz no_ret no_bind next = absurd (no_jz t refl)
notes_next (Find f) p height before after no_jump no_jz no_ret no_bind next = next
notes_next (Call f k) p height before after no_jump no_jz no_ret no_bind next = next
notes_next Ret p height before after no_jump no_jz no_ret no_bind next = absurd (no_ret refl)
notes_next (Bind x) p height before after no_jump no_jz no_ret no_bind next = absurd (no_bind x refl)

-- line p; past the end, a line of x with no height
module _ (lines : List Line) (x : Instr) (p : ℕ) where
  abbrev line : Line
  line = get_or lines p (record { instr = x; height = None })

  told_is : get_or (heights_in lines) p None ≡ line.height
  told_is = get_or-map (λ (l : Line). l.height) lines p (record { instr = x; height = None })

  stands_is : (i : Instr) → At (instrs_in lines) p i → line.instr ≡ i
  stands_is i at = sym (list.get_or-map (λ (l : Line). l.instr) lines p (record { instr = x; height = None }) i (omega (arith, at.within, length-map lines (λ (l : Line). l.instr)))) ∙ at.is

  -- nothing is known at p, or nothing comes after it
  pub notes_nowhere : ((height : ℕ) → line.height ≡ Some height → NoneAfter line.instr height) → (i : Instr) → At (instrs_in lines) p i → Notes (Stepped (heights_in lines) i p) lines lines
  notes_nowhere none i at = record {
    instrs = refl;
    heights = record {
      kept = λ k h told. told;
      only = λ k h told. inl told;
      known = λ k h new within. absurd (none new.height (sym told_is ∙ new.told) h new.small (rw (stands_is i at) new.after));
    };
  }

  -- the height after line p is noted onward
  pub notes_after : (later : List Line) (height after : ℕ) → line.height ≡ Some height → After line.instr height after → after < 65536 → Notes (Onward line.instr p after) lines later → (i : Instr) → At (instrs_in lines) p i → Notes (Stepped (heights_in lines) i p) lines later
  notes_after later height after is comes small on i at =
      record { instrs = on.instrs; heights = stepped (told_is ∙ is) (rw (stands_is i at) at comes) (rw (stands_is i at) at on.heights) }
    where
      stepped : Tells (heights_in lines) p height → After i height after → Adds (Onward i p after) (heights_in lines) (heights_in later) → Adds (Stepped (heights_in lines) i p) (heights_in lines) (heights_in later)
      stepped told comes on = record {
        kept = on.kept;
        only = λ k h told_later. elim (on.only k h told_later) [
          | inl was ↦ inl was
          | inr new ↦ inr (record { height = height; told = told; after = rw new.1 comes; small = omega (arith, new.1); goes = new.0 })
        ];
        known = λ k h new within.
            let same : new.height ≡ height = cc new.told in
            let then : h ≡ after = omega (arith, new.after.before_is, new.after.after_is, comes.before_is, comes.after_is) in
            on.known k h (new.goes, then) within;
      }
