use Rattle.std.proofs.Common.{refl}
use Rattle.paging.specs.Tables.{place}
use Rattle.paging.proofs.Filling.{place_above, place_within}
use Rattle.paging.proofs.Paging.place_of.Goals as goal

pub returns : goal.returns
unfolding place
returns c =
    let f = c.args.frames.now in
    let above = place_above c.args.self.now f c.requires.sound c.args.p c.args.a (c.requires.process, c.requires.page) in
    let within = place_within c.args.self.now f c.requires.sound c.args.p c.args.a (c.requires.process, c.requires.page) in
    rw c.frame.ensures.value (record { value = refl; above = above; within = within })
