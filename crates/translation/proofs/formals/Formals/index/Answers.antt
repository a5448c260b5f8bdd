use Rattle.std.proofs.Common.{◌≡◌, ◌==◌, ◌∙◌, rules}
use Rattle.std.proofs.lemmas.Iterator.{YieldsList-from_slice}
use Rattle.std.proofs.lemmas.Iterator.Search.{position_from_yields_List}
use Rattle.std.specs.List.{position}
use Rattle.translation.proofs.Naming.{position_place}
use Rattle.translation.proofs.formals.Formals.index.Goals as goal

pub returns : goal.returns
returns c =
    let first : c.position.result ≡ position (λ y. y == c.args.x) c.args.self.now.names.now =
    position_from_yields_List (λ y. y == c.args.x) _ _ _ c.position.ensures.ran (YieldsList-from_slice c.args.self.now.names.now (cc)) (λ x b q k. search rules) in
    let same : c.map.result ≡ c.position.result = search rules in
    same ∙ first ∙ position_place c.args.self.now.names.now c.args.x
