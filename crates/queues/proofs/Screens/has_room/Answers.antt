use Rattle.std.proofs.Common.{◌≡◌, length, arith}
use Rattle.std.proofs.lemmas.Grind.{common_steps}
use Rattle.queues.proofs.Packs.{total_is}
use Rattle.queues.proofs.Screens.has_room.Goals as goal

pub returns : goal.returns
returns c =
    let rows : length c.args.self.now.begins ≡ 17 = omega arith in
    let all = total_is c.args.self.now c.args.screens.now rows c.requires.within 16 (omega arith) in
    rw all (grind (arith, common_steps, c.requires.within))
