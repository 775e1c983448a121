use Rattle.std.proofs.Common.{◌≡◌, ◌+◌, ◌*◌, ap, ◌∙◌, inl, arith, below_more}
use Rattle.octets.specs.Words.{word_at}
use Rattle.octets.proofs.Numbers.{word_over_out}
use Rattle.paging.specs.Tables.{entry_of}
use Rattle.paging.proofs.slots.make_tops.Goals as goal

pub loop-n-preserved : goal.loop-n-preserved
loop-n-preserved c =
    below_more _ _
    (λ m h. ap (λ f. word_at f (m * 4)) c.write.ensures.row ∙ word_over_out _ _ _ (m * 4) (omega arith) (inl (omega arith)) ∙ c.loop-n.invariant m h)
    c.write.ensures.read

pub returns : goal.returns
unfolding entry_of
returns c p j hp hj =
    let e : (p * 16 + j) * 4 ≡ p * 64 + j * 4 = omega arith in
    let d = rw e at (c.loop-n.invariant (p * 16 + j) (omega arith)) in
    d ∙ omega arith
