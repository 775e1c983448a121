-- Bytes and blocks. Assumes nothing.
use Rattle.std.proofs.Common.{◌≡◌, ℕ, ◌+◌, ◌-◌, ◌*◌, ◌/◌, ◌<◌, ◌≤◌, ◌≢◌, List, [], length, get_or, take, drop, set, zero, suc, refl, sym, ap, ◌∙◌, ⊎_elim, arith}
use Rattle.std.specs.Simd.{first_chunks}
use borrow.Rule.Slice.PartMut.{put_mid}
use Rattle.std.proofs.lemmas.List.{same_lists, length-set, get_or-set_same, get_or-set_other, length-append, length-take, length-drop, drop-drop}
use Rattle.std.proofs.lemmas.List.FromFn.{length-map-range_with_len, get_or-map-range_with_len, fill_by_all}
use Rattle.std.proofs.lemmas.Slice.{between_is, between-put_mid, drop-put_mid, take-put_mid_below}
use Rattle.std.proofs.lemmas.Bool.{cases_order}
use Rattle.disc.specs.Blocks.{blocks, block_of, Whole}

pub length_blocks : (xs : List ℕ) → length (blocks xs) ≡ length xs / 512
unfolding blocks
length_blocks xs = length-map-range_with_len (block_of xs) 0 (length xs / 512)

pub get_or_blocks : (xs : List ℕ) (i : ℕ) (e : List ℕ) → i < length xs / 512 → get_or (blocks xs) i e ≡ block_of xs i
unfolding blocks
get_or_blocks xs i e h = get_or-map-range_with_len (block_of xs) 0 (length xs / 512) i i e h (omega arith)

-- a block as a part of the bytes, from a place to a place
block_is : (xs : List ℕ) (k : ℕ) → block_of xs k ≡ drop (512 * k) (take (512 * k + 512) xs)
block_is xs k =
    let e : 512 * k + 512 - 512 * k ≡ 512 = omega arith in
    ap (λ (n : ℕ). take n (drop (512 * k) xs)) (sym e) ∙ between_is xs (512 * k) (512 * k + 512)

-- a write to the bytes of one block
module _ (xs ys : List ℕ) (i n : ℕ) (size : n ≡ 512) (fits : 512 * (i + 1) ≤ length xs) (whole : length ys ≡ 512) where
  length_after : length (put_mid (512 * i) n xs ys) ≡ length xs
  length_after = simp (length-append, length-take, length-drop) (omega arith)

  block_after_same : block_of (put_mid (512 * i) n xs ys) i ≡ ys
  block_after_same =
      let e : 512 * i + 512 - 512 * i ≡ 512 = omega arith in
      ap (λ (m : ℕ). take m (drop (512 * i) (put_mid (512 * i) n xs ys))) (sym e)
      ∙ between-put_mid (512 * i) n xs ys (512 * i + 512) (omega arith) (omega arith)

  block_after_below : (k : ℕ) → k < i → block_of (put_mid (512 * i) n xs ys) k ≡ block_of xs k
  block_after_below k h =
      block_is (put_mid (512 * i) n xs ys) k ∙ ap (drop (512 * k)) (take-put_mid_below (512 * i) n xs ys (512 * k + 512) (omega arith) (omega arith))
      ∙ sym (block_is xs k)

  block_after_above : (k : ℕ) → i < k → block_of (put_mid (512 * i) n xs ys) k ≡ block_of xs k
  block_after_above k h = ap (take 512) (drop-put_mid (512 * i) n xs ys (512 * k) (omega arith) (omega arith) (omega arith))

  at_each : (k : ℕ) (d : List ℕ) → k < length xs / 512 → get_or (blocks (put_mid (512 * i) n xs ys)) k d ≡ get_or (set (blocks xs) i ys) k d
  at_each k d h =
      let l = length_blocks xs in
      let l' = length_after in
      let here : k < length (put_mid (512 * i) n xs ys) / 512 = omega arith in
      get_or_blocks (put_mid (512 * i) n xs ys) k d here
      ∙ ⊎_elim
      (λ (e : k ≡ i). let w : i < length (blocks xs) = omega arith in rw (e, get_or-set_same) block_after_same)
      (⊎_elim
      (λ (b : k < i). let ne : k ≢ i = omega arith in rw (get_or-set_other, get_or_blocks) (block_after_below k b))
      (λ (a : i < k). let ne : k ≢ i = omega arith in rw (get_or-set_other, get_or_blocks) (block_after_above k a)))
      (cases_order k i)

  pub blocks_put : blocks (put_mid (512 * i) n xs ys) ≡ set (blocks xs) i ys
  blocks_put =
      let l = length_blocks (put_mid (512 * i) n xs ys) in
      let m : length (blocks (put_mid (512 * i) n xs ys)) ≡ length xs / 512 = l ∙ ap (λ (m : ℕ). m / 512) length_after in
      same_lists _ _ (m ∙ sym (length-set (blocks xs) i ys ∙ length_blocks xs)) (λ k d h. at_each k d (omega arith))

-- the bytes cut into arrays of 512 are their blocks
chunk_at : (k m : ℕ) (xs : List ℕ) → k < m → get_or (first_chunks 512 m xs) k [] ≡ take 512 (drop (512 * k) xs)
chunk_at k zero xs l = absurd (omega arith)
chunk_at zero (suc m) xs l = refl
chunk_at (suc k) (suc m) xs l =
    let e : 512 * k + 512 ≡ 512 * suc k = omega arith in
    chunk_at k m (drop 512 xs) (omega arith) ∙ ap (take 512) (drop-drop (512 * k) 512 xs ∙ ap (λ (n : ℕ). drop n xs) (omega arith))

chunks_length : (m : ℕ) (xs : List ℕ) → length (first_chunks 512 m xs) ≡ m
chunks_length zero xs = refl
chunks_length (suc m) xs = ap suc (chunks_length m (drop 512 xs))

pub chunks_blocks : (xs : List ℕ) → first_chunks 512 (length xs / 512) xs ≡ blocks xs
unfolding blocks
chunks_blocks xs = fill_by_all (block_of xs) (first_chunks 512 (length xs / 512) xs) (length xs / 512) [] (chunks_length (length xs / 512) xs) (λ k l. chunk_at k (length xs / 512) xs l)

-- a part of the bytes that is a block, as the code cuts it
pub cut_block : (xs : List ℕ) (i : ℕ) → 512 * (i + 1) ≤ length xs → take (512 * i + 512 - 512 * i) (drop (512 * i) xs) ≡ get_or (blocks xs) i []
cut_block xs i h =
    let e : 512 * i + 512 - 512 * i ≡ 512 = omega arith in
    ap (λ (n : ℕ). take n (drop (512 * i) xs)) e ∙ sym (get_or_blocks xs i [] (omega arith))

-- the blocks of bytes are whole
pub blocks_whole : (xs : List ℕ) → Whole (blocks xs)
blocks_whole xs i u = let l = length_blocks xs in ap length (get_or_blocks xs i [] (omega arith)) ∙ length-take 512 (drop (512 * i) xs) ∙ simp length-drop (omega arith)
