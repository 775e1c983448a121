-- What a write to a part of a slice leaves. Assumes nothing.
use Rattle.std.proofs.Common.{◌≡◌, ℕ, ◌-◌, ◌≤◌, List, length}
use borrow.Rule.Slice.PartMut.{put_mid}
use Rattle.octets.proofs.Parts.{part_low, part_high}
use Rattle.paging.specs.Frames.{ElseKept}

pub part_else : (xs ys : List ℕ) (a e : ℕ) → length ys ≡ e - a → a ≤ e → e ≤ length xs → ElseKept a e xs (put_mid a (e - a) xs ys)
part_else xs ys a e long le fits = record { low = part_low xs ys a e long le fits; high = part_high xs ys a e long le fits }
