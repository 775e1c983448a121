use Rattle.std.proofs.Common.{refl, ◌∙◌, arith}
use Rattle.paging.proofs.Rows.{begun_held, begun_other}
use Rattle.tests.proofs.paging_tests.copies.Goals as goal

pub begin-requires : goal.begin-requires
begin-requires g c = record { sound = c.set_up-paging.ensures.sound; enough = c.set_up-paging.ensures.enough; process = omega arith; none = c.set_up-paging.ensures.none 0 }

pub store-requires : goal.store-requires
store-requires g c = record { sound = c.begin.ensures.begun.sound; process = omega arith; aligned = refl; holds = λ h. absurd (omega (arith, c.none-cache.ensures.beyond)) }

pub store-requires-2 : goal.store-requires-2
store-requires-2 g c = record { sound = c.store.ensures.only.sound; process = omega arith; aligned = refl; holds = c.store.ensures.holds }

pub begin_copy-requires : goal.begin_copy-requires
begin_copy-requires g c =
    let s = c.set_up-paging.ensures.sound in
    let b = c.begin.ensures.begun in
    record {
      sound = c.store-2.ensures.only.sound;
      enough = c.begin.ensures.enough;
      processes = (omega arith, omega arith);
      all = begun_held c.set_up-paging.result c.begin.new.self c.set_up-paging.new.frames c.begin.new.frames 0 1 s _ (omega arith) b;
      none = begun_other c.set_up-paging.result c.begin.new.self c.set_up-paging.new.frames c.begin.new.frames 0 1 s _ b 1 (λ e. omega arith) ∙ c.set_up-paging.ensures.none 1;
      apart = λ e. omega arith;
    }

pub load-requires : goal.load-requires
load-requires g c = record { sound = c.begin_copy.ensures.begun.sound; process = omega arith; aligned = refl; holds = λ h. absurd (omega (arith, c.none-copy.ensures.beyond)) }

pub load-requires-2 : goal.load-requires-2
load-requires-2 g c = record { sound = c.begin_copy.ensures.begun.sound; process = omega arith; aligned = refl; holds = c.load.ensures.holds }

pub load-requires-3 : goal.load-requires-3
load-requires-3 g c = record { sound = c.begin_copy.ensures.begun.sound; process = omega arith; aligned = refl; holds = c.load-2.ensures.holds }
