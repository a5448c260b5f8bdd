-- Reading has one answer only.
use Rattle.std.proofs.Common.{◌≡◌, ℕ, ◌<◌, List, Ok, Err, Result, sym, refl, ap, ◌∙◌, subst}
use Rattle.format.specs.declared.header.Header.{Header}
use Rattle.format.specs.declared.image.Image.{Image}
use Rattle.format.specs.declared.refusal.Refusal.{Refusal}
use Rattle.format.specs.declared.refusal.Refusal.TheVariants.{Code}
use Rattle.format.specs.Refusals.{Told, told}
use Rattle.format.specs.Layout.{codes_in, operands_in}
use Rattle.format.specs.Headers.{HeaderAt}
use Rattle.format.proofs.Headers.{one_kind, only_first}
use Rattle.format.specs.Images.{HasInstr, FirstNoInstr, ImageRefused, SIZE, HEAD, CODE, ImageIn, ImageRead, answer, ImageAnswered}

one_header : {bytes : List ℕ} {h k : Header} → HeaderAt bytes h → HeaderAt bytes k → h ≡ k
one_header {bytes} {h} {k} x y =
    let height : h.height ≡ k.height = x.height ∙ sym y.height in
    let kind : h.kind ≡ k.kind = one_kind _ _ (x.kind ∙ sym y.kind) in
    let number : h.number ≡ k.number = x.number ∙ sym y.number in
    let formals : h.formals ≡ k.formals = x.formals ∙ sym y.formals in
    λ i. record { height = height i; kind = kind i; number = number i; formals = formals i }

module _ (codes operands : List ℕ) (h : Header) where
  not_later : (i j : ℕ) → FirstNoInstr codes operands h i → FirstNoInstr codes operands h j → i < j → ⊥
  not_later i j x y lt = x.wrong _ (y.before _ lt).here

module _ (bytes : List ℕ) where
  one_code : {h k : Header} {i j : ℕ} → HeaderAt bytes h → HeaderAt bytes k → FirstNoInstr (codes_in bytes) (operands_in bytes) h i → FirstNoInstr (codes_in bytes) (operands_in bytes) k j → i ≡ j
  one_code {h} {k} {i} {j} x y v w =
      only_first (FirstNoInstr (codes_in bytes) (operands_in bytes) h) (not_later (codes_in bytes) (operands_in bytes) h) i j v (subst (λ l. FirstNoInstr (codes_in bytes) (operands_in bytes) l j) (one_header y x) w)

  one_refusal : {a b : Told} → ImageRefused bytes a → ImageRefused bytes b → a ≡ b
  one_refusal (SIZE z) (SIZE y) = refl
  one_refusal (SIZE z) (HEAD s y) = absurd (z s)
  one_refusal (SIZE z) (CODE s h at w) = absurd (z s)
  one_refusal (HEAD s z) (SIZE y) = absurd (y s)
  one_refusal (HEAD s z) (HEAD s' y) = refl
  one_refusal (HEAD s z) (CODE s' h at w) = absurd (z h)
  one_refusal (CODE s h at w) (SIZE y) = absurd (y s)
  one_refusal (CODE s h at w) (HEAD s' y) = absurd (y h)
  one_refusal (CODE s h at w) (CODE s' h' at' v) = ap (λ k. told (Code k)) (one_code at at' w v)

  not_both : {r : Image} {a : Told} → ImageIn bytes r → ImageRefused bytes a → ⊥
  not_both x (SIZE y) = y x.sized
  not_both x (HEAD s y) = y x.head
  not_both {r} x (CODE {h} {i} s y at w) = w.wrong _ (subst (λ l. HasInstr (codes_in bytes) (operands_in bytes) l i) (one_header x.header at) (x.each i w.within)).here

  one_answer : (r s : Result Image Refusal) → ImageRead bytes r → ImageRead bytes s → answer r ≡ answer s
  one_answer (Ok r) (Ok s) x y = ap Ok (one_header x.header y.header)
  one_answer (Ok r) (Err e) x y = absurd (not_both x y)
  one_answer (Err e) (Ok s) x y = absurd (not_both y x)
  one_answer (Err e) (Err f) x y = ap Err (one_refusal x y)

  pub answered : (r : Result Image Refusal) → ImageRead bytes r → ImageAnswered bytes r
  answered r x = record { read = x; only = λ s y. one_answer s r y x }
