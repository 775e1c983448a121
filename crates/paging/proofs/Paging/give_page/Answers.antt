use Rattle.std.proofs.Common.{ℕ, ◌+◌, set, refl, ap, arith}
use Rattle.paging.specs.Pages.{held}
use Rattle.paging.proofs.Moving.{given_sound, given_kept}
use Rattle.paging.proofs.Paging.give_page.Goals as goal

pub returns : goal.returns
returns c =
    let g = c.args.self.now in
    let f = c.args.frames.now in
    let p = c.args.p in
    record {
      state = ap (λ (n : ℕ). record { free = n; pages = set g.pages p (held g p + 1) }) (omega arith);
      sound = given_sound g _ f _ p _ c.requires.sound c.requires.process c.requires.room c.requires.some refl refl c.free_frame-free.ensures c.put_page.ensures (omega arith);
      kept = given_kept g _ f _ p _ c.requires.sound c.requires.process c.requires.room c.requires.some refl refl c.free_frame-free.ensures c.put_page.ensures (omega arith);
    }
