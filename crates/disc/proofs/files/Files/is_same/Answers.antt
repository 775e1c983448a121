use Rattle.std.proofs.Common.{◌≡◌, ℕ, ◌*◌, [], map, get_or, vec_items, length, sym, ap, ◌∙◌, arith, below_more}
use Rattle.std.proofs.lemmas.List.{get_or-map}
use Rattle.disc.specs.Plans.{shape}
use Rattle.disc.specs.Lent.{header_of, file_of}
use Rattle.disc.proofs.Places.{file_length}
use Rattle.disc.proofs.Held.{same_file, block_more, block_differs}
use Rattle.disc.proofs.files.Files.is_same.Goals as goal
use Rattle.disc.proofs.files.Files.is_same.Goals.{After-as_slice-bytes}

-- the bytes that are compared are those of the file at its place
row : (c : After-as_slice-bytes) → c.as_slice-bytes.result.now ≡ get_or (map vec_items c.args.files.now) c.files.f []
row c = c.as_slice-bytes.ensures.value ∙ ap vec_items c.index-files-f.is ∙ sym (get_or-map vec_items c.args.files.now c.files.f c.index-files-f.result [] (omega arith))

pub files-preserved : goal.files-preserved
files-preserved c =
    let s = c.args.self.now in
    let d = s.plan.fit.deep in
    let o = c.requires.sound c.files.f (omega arith) in
    let v = c.length_of.ensures.value in
    let t = c.if-length_of-bytes.false in
    let n = file_length (shape s.plan) (header_of s) s.disc.now c.files.f (omega arith) s.large (omega arith) in (
      c.loop-b.invariant.0,
      below_more _ _ c.loop-b.invariant.1
          (same_file (file_of s c.files.f) c.as_slice-bytes.result.now (512 * s.plan.each) (omega arith) (omega arith)
          (λ k a b. c.loop-b.invariant.2 k (omega arith) b)
          ∙ row (goal.at.files-preserved c).After-as_slice-bytes),
    )

pub returns-then-length_of-bytes : goal.returns-then-length_of-bytes
returns-then-length_of-bytes c =
    let s = c.args.self.now in
    let d = s.plan.fit.deep in
    let o = c.requires.sound c.files.f (omega arith) in
    let n = file_length (shape s.plan) (header_of s) s.disc.now c.files.f (omega arith) s.large (omega arith) in
    record {
      yes = λ e. let z : ◌≡◌ {A = ℕ} 0 1 = cc in absurd (omega arith);
      no = λ _ h. c.if-length_of-bytes.true (c.length_of.ensures.value ∙ sym n ∙ ap length (h c.files.f (omega arith) ∙ sym (row (goal.at.returns-then-length_of-bytes c).After-as_slice-bytes)));
    }

pub loop-b-preserved : goal.loop-b-preserved
loop-b-preserved c =
    (c.loop-b.invariant.0, c.loop-b.invariant.1, block_more (file_of c.args.self.now c.files.f) c.as_slice-bytes.result.now c.loop-b.b (sym c.is_same_block.ensures ∙ c.if-not-is_same_block.false) c.loop-b.invariant.2)

pub returns-then-not-is_same_block-clause-no : goal.returns-then-not-is_same_block-clause-no
returns-then-not-is_same_block-clause-no c = λ _ h.
    block_differs (file_of c.args.self.now c.files.f) c.as_slice-bytes.result.now c.loop-b.b (sym c.is_same_block.ensures ∙ c.if-not-is_same_block.true) (h c.files.f (omega arith) ∙ sym (row (goal.at.returns-then-not-is_same_block-clause-no c).After-as_slice-bytes))
