use Rattle.std.proofs.Common.{rules, ◌≡◌, length, ◌/◌, get_or, tests, arith, map, vec_items, subst}
use Rattle.std.proofs.lemmas.Iterator.{YieldsList-from_slice, YieldsList-from_map, items_from_collect}
use Rattle.std.proofs.lemmas.Iterator.Adapters.{serves_from_places}
use Rattle.std.proofs.lemmas.Result.{IfOk-at_ok}
use Rattle.commands.specs.Hex.{IsDigit, DigitsTo, FirstNonDigit}
use Rattle.commands.proofs.Digit.{number-digit}
use Rattle.commands.proofs.Decoding.{byte, pair_digits, decoded}
use Rattle.commands.proofs.hex.decode.Goals as goal

pub collect-requires-clause-can : goal.collect-requires-clause-can
collect-requires-clause-can c = (
  tt,
  serves_from_places (YieldsList-from_slice c.as_chunks.result.0.now cc) (λ x q r. search (rules, tests)) (λ x k h e.
      let text = c.args.text.now in
      let digits : DigitsTo (length text) text = subst (FirstNonDigit text) c.in_default.is c.first_non_digit.ensures in
      let pair : IsDigit (get_or x.now 0 0) × IsDigit (get_or x.now 1 0) = rw (e, c.as_chunks.ensures.front) (pair_digits (length text / 2) text k x.now (omega arith) digits (omega (arith, c.as_chunks.ensures.front_len))) in
      search (rules, tests)),
)

pub returns : goal.returns
returns c =
    let text = c.args.text.now in
    let digits : DigitsTo (length text) text = subst (FirstNonDigit text) c.in_default.is c.first_non_digit.ensures in
    let is : vec_items c.in_ok-bytes.bytes ≡ map byte c.as_chunks.result.0.now =
    IfOk-at_ok _ c.in_ok-bytes.was (items_from_collect _ c.collect.ensures.ran (YieldsList-from_map _ byte (YieldsList-from_slice c.as_chunks.result.0.now cc) c.map.ensures.closure (λ x r q k. grind (arith, number-digit)))) in
    let whole = decoded (length text / 2) text (omega (arith, c.as_chunks.ensures.back_len, c.in_default-empty.len_below)) digits in
    rw (is, c.as_chunks.ensures.front) whole
