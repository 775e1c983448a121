use Rattle.std.proofs.Common.{◌≡◌, ◌≤◌, All, vec_len, vec_items}
use Rattle.loading.proofs.load_list.Given as goal

abbrev pub invariant-loop-put : goal.invariant-loop-put
invariant-loop-put l = (vec_len l.files ≡ l.put-index) × All (λ bytes. vec_len bytes ≤ l.sizes.file) (vec_items l.files)
