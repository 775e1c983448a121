use Rattle.std.proofs.Common.{◌≡◌, ◌*◌, ◌/◌, ◌≤◌, sym, ◌∙◌, mul-le-mul, arith, below_more}
use Rattle.turns.specs.declared.vocabulary.Sizes.{Sizes}
use Rattle.paging.specs.Tables.Slot.{free}
use Rattle.paging.proofs.Counting.{lacking_all}
use Rattle.paging.proofs.Living.{fresh}
use Rattle.paging.proofs.Paging.set_up.Goals as goal

most : (z : Sizes) → z.processes ≤ 64 → z.memory ≤ 1048576 → z.processes * (z.memory / 4096) ≤ 16384
most z h l = mul-le-mul {n₁ = z.processes} {m₁ = z.memory / 4096} {n₂ = 64} {m₂ = 256} h (omega arith)

pub put_free-requires : goal.put_free-requires
put_free-requires c = record { stack = omega (arith, most c.args.sizes c.requires.processes c.requires.small); long = omega arith; tops = c.loop-k.invariant.0 }

pub loop-k-preserved : goal.loop-k-preserved
loop-k-preserved c =
    let m = most c.args.sizes c.requires.processes c.requires.small in (
      c.put_free.ensures.tops,
      below_more _ _ (λ j h. c.put_free.ensures.same (free j) (omega arith) (λ e. let d : j ≡ c.loop-k.k = cc in omega arith) ∙ c.loop-k.invariant.1 j h) c.put_free.ensures.here,
    )

pub returns : goal.returns
returns c =
    let e = c.all_free.ensures in
    let m = most c.args.sizes c.requires.processes c.requires.small in
    record {
      sound = fresh _ _ e.rows e.none (omega arith) (omega arith) c.loop-k.invariant.0 (λ k h. c.loop-k.invariant.1 k (omega arith));
      enough = record { processes = c.requires.processes; small = c.requires.small; whole = c.requires.whole; free = e.free ∙ sym (lacking_all _ _ _ e.none) };
      none = e.none;
    }
