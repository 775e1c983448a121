use Rattle.std.proofs.Common.{◌≡◌, ℕ, ◌<◌, None, get_or, length, arith, rules}
use Rattle.std.proofs.lemmas.List.{get_or-map}
use Rattle.std.proofs.lemmas.Grind.{same_number_lists, common_steps}
use Rattle.std.specs.Option.{unwrap_or}
use Rattle.inputs.proofs.lists.Draft.given_in.Goals as goal

pub returns : goal.returns
returns c =
    let m = c.map.ensures.items in
    let n : length c.args.self.now.lines ≡ 10 = grind (arith, common_steps) in
    let e : (i : ℕ) → i < 10 → get_or c.map.result i 0 ≡ unwrap_or (get_or c.args.self.now.lines i None) 0 = λ i k. (let q = m.at i None 0 k in search (rules, q.2)) in
    same_number_lists _ _ (grind (arith, common_steps, m.long)) (λ i k. grind (arith, common_steps, e, get_or-map))
