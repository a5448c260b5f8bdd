-- What each answer of reading an image rests on.
use Rattle.std.proofs.Common.{◌≡◌, ℕ, ◌<◌, ◌≤◌, List, length, None, Some, Option, MatchOption, false, true, is_none, rules, sym, ap, ◌∙◌, subst, arith}
use Rattle.format.specs.declared.header.Header.{Header}
use Rattle.format.specs.declared.image.Image.{Image}
use Rattle.format.specs.declared.refusal.Refusal.TheVariants.{Code}
use Rattle.format.specs.Refusals.{told}
use Rattle.format.specs.Layout.{bytes4, codes_in, operands_in}
use Rattle.format.specs.Headers.{HeaderAt}
use Rattle.format.specs.declared.instr.Instr.{Instr}
use Rattle.format.specs.declared.layout.Row.{Row}
use Rattle.format.specs.Rows.{Cut, SizedTo, RowAt}
use Rattle.format.specs.declared.instr.Instr.TheVariants.{Push, LoadF, LoadG, StoreF, StoreG, Pop, Jump, Jz, Find, Call, Ret, Bind}
use Rattle.format.specs.Instrs.{NoInstr, IsInstr, Belongs, operand}
use Rattle.language.specs.Limits.{IsValue}
use Rattle.format.specs.Images.{ImageSized, ImageHead, InstrIn, NoInstrIn, HasInstr, AllInstrs, FirstNoInstr, ImageRefused, CODE, codes_of_image, operands_of_image, ImageIn}
use Rattle.format.proofs.Bytes.{bytes4_injective}
use Rattle.format.proofs.Headers.{sizes}

module _ (bytes codes operands : List ℕ) (cut : Cut bytes codes operands) where
  pub few_codes : {most : ℕ} → SizedTo most bytes → length codes ≤ most
  few_codes s = omega (arith, (sizes bytes codes operands cut).0, s.few)

  module _ (h : Header) (at : HeaderAt bytes h) where
    pub some_head : 0 < h.height → h.height ≤ 2048 → ImageHead bytes
    some_head some low = record { some = omega (arith, at.height); low = omega (arith, at.height); headed = at.headed }

    pub refuse_code : {i : ℕ} → ImageSized bytes → ImageHead bytes → FirstNoInstr codes operands h i → ImageRefused bytes (told (Code i))
    refuse_code {i} sized head wrong =
        CODE sized head at (subst (λ l. FirstNoInstr (codes_in bytes) l h i) cut.operands_are (subst (λ l. FirstNoInstr l operands h i) cut.codes_are wrong))

    pub image_in : ImageSized bytes → ImageHead bytes → (r : Image) → r.header ≡ h → codes_of_image r ≡ codes → operands_of_image r ≡ operands → AllInstrs codes operands h → ImageIn bytes r
    image_in sized head r same same_codes same_operands all =
        record {
          sized = sized;
          head = head;
          header = subst (HeaderAt bytes) (sym same) at;
          codes = same_codes ∙ cut.codes_are;
          operands = same_operands ∙ cut.operands_are;
          each = subst (AllInstrs (codes_in bytes) (operands_in bytes)) (sym same) (subst (λ l. AllInstrs (codes_in bytes) l h) cut.operands_are (subst (λ l. AllInstrs l operands h) cut.codes_are all));
        }

instr_value : (h : Header) (n : ℕ) → h.formals < 256 → h.number < 256 → n ≤ 6144 → (x : Instr) → Belongs h n x → IsValue (operand x)
instr_value h n formals number few (Push v) b = b
instr_value h n formals number few (LoadF i) b = omega (arith, b, formals)
instr_value h n formals number few (LoadG x) b = omega (arith, b)
instr_value h n formals number few (StoreF i) b = omega (arith, b, formals)
instr_value h n formals number few (StoreG x) b = omega (arith, b)
instr_value h n formals number few Pop b = omega arith
instr_value h n formals number few (Jump t) b = omega (arith, b, few)
instr_value h n formals number few (Jz t) b = omega (arith, b, few)
instr_value h n formals number few (Find f) b = omega (arith, b)
instr_value h n formals number few (Call f k) b = omega (arith, b.0, b.1)
instr_value h n formals number few Ret b = omega arith
instr_value h n formals number few (Bind x) b = omega (arith, b.1, number)

-- what the instruction of a row tells of the image
module _ (image : Image) (i : ℕ) (row : Row) (at : RowAt image.instrs i row) (few : length (codes_of_image image) ≤ 6144) (formals : image.header.formals < 256) (number : image.header.number < 256) where
  pub instr_in : (r : Option Instr) → MatchOption r (NoInstr image.header (length (codes_of_image image)) row.code row.operand) (IsInstr image.header (length (codes_of_image image)) row.code row.operand) → MatchOption r (NoInstrIn image i) (InstrIn image i)
  instr_in None none = λ x here. none x record { belongs = here.belongs; code_is = at.code ∙ here.code_is; operand_is = bytes4_injective _ _ at.operand.value (instr_value image.header (length (codes_of_image image)) formals number few x here.belongs) (sym at.operand.four ∙ here.operand_is) }
  instr_in (Some x) is = record { few = few; within = at.within; belongs = is.belongs; code_is = sym at.code ∙ is.code_is; operand_is = at.operand.four ∙ ap bytes4 is.operand_is }

-- what looking at each instruction tells of the image
module _ (image : Image) where
  pub some_instr : (i : ℕ) (r : Option Instr) → MatchOption r (NoInstrIn image i) (InstrIn image i) → is_none r ≡ false → HasInstr (codes_of_image image) (operands_of_image image) image.header i
  some_instr i None none e = absurd (search (e, rules))
  some_instr i (Some x) here e = record { instr = x; here = here }

  pub no_instr : (i : ℕ) (r : Option Instr) → MatchOption r (NoInstrIn image i) (InstrIn image i) → is_none r ≡ true → NoInstrIn image i
  no_instr i None none e = none
  no_instr i (Some x) here e = absurd (search (e, rules))
