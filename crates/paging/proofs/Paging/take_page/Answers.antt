use Rattle.std.proofs.Common.{ℕ, ◌-◌, set, refl, ap, arith}
use Rattle.paging.specs.Pages.{held}
use Rattle.paging.proofs.Moving.{taken_sound, taken_others}
use Rattle.paging.proofs.Paging.take_page.Goals as goal

pub returns : goal.returns
returns c =
    let g = c.args.self.now in
    let f = c.args.frames.now in
    let p = c.args.p in
    record {
      state = ap (λ (n : ℕ). record { free = n; pages = set g.pages p (held g p - 1) }) (omega arith);
      sound = taken_sound g _ f _ p _ c.requires.sound c.requires.process c.requires.some c.requires.room refl refl c.frame-n.ensures.value c.put_free.ensures (omega arith);
      others = taken_others g _ f _ p _ c.requires.sound c.requires.process c.requires.some c.requires.room refl refl c.frame-n.ensures.value c.put_free.ensures (omega arith);
    }
