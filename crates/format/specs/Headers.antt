-- What the header of a table and that of an image have in common.
use Rattle.std.specs.Prelude.{◌≡◌, ℕ, ◌≤◌, List, length, Result, MatchResult, slice_index}
use Rattle.language.specs.Limits.{IsName}
use Rattle.format.specs.declared.header.Header.{Header}
use Rattle.format.specs.declared.header.Kind.{Kind}
use Rattle.format.specs.declared.header.UnknownKind.{UnknownKind}
use Rattle.format.specs.declared.header.Kind.TheVariants.{Function, Variable}
use Rattle.format.specs.Layout.{kind_byte, u16_at}

-- the kind that a byte stands for
abbrev pub KindOf : ℕ → Result Kind UnknownKind → Type 0
KindOf byte r = MatchResult r (λ kind. kind_byte kind ≡ byte) (λ e. (e.0 ≡ byte) × (2 ≤ byte))

-- a variable has no formals
abbrev pub most_formals : Kind → ℕ
most_formals Function = 15
most_formals Variable = 0

-- the bytes after the height are in their ranges
pub record Headed (bytes : List ℕ) : Type 0 where
  pub kind : Kind
  pub kind_is : kind_byte kind ≡ slice_index bytes 4
  pub number : IsName (slice_index bytes 5)
  pub formals : slice_index bytes 6 ≤ most_formals kind
  pub last : slice_index bytes 7 ≡ 0

-- and what they say
pub record HeaderAt (bytes : List ℕ) (h : Header) : Type 0 where
  pub headed : Headed bytes
  pub long : 8 ≤ length bytes
  pub height : h.height ≡ u16_at bytes 2
  pub kind : kind_byte h.kind ≡ slice_index bytes 4
  pub number : h.number ≡ slice_index bytes 5
  pub formals : h.formals ≡ slice_index bytes 6
