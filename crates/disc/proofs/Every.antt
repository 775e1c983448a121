-- Every list of files that fits has a disc: an image is laid out by definitions alone. Assumes nothing.
use Rattle.std.proofs.Common.{◌≡◌, ℕ, zero, suc, ◌+◌, ◌*◌, ◌<◌, ◌≤◌, true, ◌⊎◌, List, [], ◌∷◌, ◌++◌, length, get_or, replicate, refl, ◌∙◌, subst, inl, inr, arith}
use lib.ListN.{length-replicate}
use Rattle.octets.specs.Rows.{over, Bytes}
use Rattle.octets.specs.Words.{word_bytes}
use Rattle.octets.proofs.Over.{length_over, get_or_over_in, get_or_over_out, bytes_over, bytes_append, bytes_zeros}
use Rattle.octets.proofs.Numbers.{word_digits, word_over, word_over_out}
use Rattle.octets.proofs.Tests.{get_or_all}
use Rattle.turns.specs.Ranges.{InRange}
use Rattle.turns.specs.declared.vocabulary.Sizes.{Sizes}
use Rattle.disc.specs.Blocks.{blocks}
use Rattle.disc.specs.Layout.{Shape, plan_of, data_at, room, Fit}
use Rattle.disc.specs.Check.{named, sizes_in}
use Rattle.disc.specs.Format.{Laid, EveryList}
use Rattle.disc.proofs.Places.{fits, row_in}
use Rattle.disc.proofs.Images.{laid_none, laid_more, laid_holds}

-- numbers in bytes, one after the other
in_bytes : List ℕ → List ℕ
in_bytes [] = []
in_bytes (x ∷ xs) = word_bytes x ++ in_bytes xs

-- what block 0 begins with
start : Sizes → List ℕ
start z =
    (84 ∷ 85 ∷ 82 ∷ 78 ∷ [])
    ++ in_bytes (z.processes ∷ z.opens ∷ z.pipes ∷ z.handles ∷ z.memory ∷ z.pipe ∷ z.file ∷ z.files ∷ z.screens ∷ z.turn ∷ [])

bare : Sizes → ℕ → List ℕ
bare z n = over (replicate n 0) 0 (start z)

bare_name : (z : Sizes) (n : ℕ) → named (bare z n) ≡ true
unfolding bare start in_bytes over
bare_name z n = refl

bare_sizes : (z : Sizes) (n : ℕ) → InRange z → sizes_in (bare z n) ≡ z
unfolding bare start in_bytes over sizes_in
bare_sizes z n r =
    let a = r.processes.1 in
    let b = r.opens.1 in
    let c = r.pipes in
    let d = r.handles.1 in
    let e = r.memory.1 in
    let f = r.pipe.1 in
    let g = r.file in
    let h = r.files.1 in
    let i = r.screens.1 in
    let j = r.turn.1 in
    rw (
      word_digits z.processes (omega arith),
      word_digits z.opens (omega arith),
      word_digits z.pipes (omega arith),
      word_digits z.handles (omega arith),
      word_digits z.memory (omega arith),
      word_digits z.pipe (omega arith),
      word_digits z.file (omega arith),
      word_digits z.files (omega arith),
      word_digits z.screens (omega arith),
      word_digits z.turn (omega arith),
    )

bare_length : (z : Sizes) (n : ℕ) → 44 ≤ n → length (bare z n) ≡ n
unfolding bare start in_bytes
bare_length z n l = let m = length-replicate {A = ℕ} n 0 in length_over (replicate n 0) 0 (start z) (omega arith) ∙ m

bare_others : (z : Sizes) (n k : ℕ) → 44 ≤ k → get_or (bare z n) k 0 ≡ 0
unfolding bare start in_bytes
bare_others z n k l = get_or_over_out (replicate n 0) 0 (start z) k 0 (omega arith) (inr (omega arith)) ∙ get_or_all n k 0

bytes_word : (x : ℕ) → Bytes (word_bytes x)
bytes_word x zero = omega arith
bytes_word x (suc zero) = omega arith
bytes_word x (suc (suc zero)) = omega arith
bytes_word x (suc (suc (suc zero))) = omega arith
bytes_word x (suc (suc (suc (suc k)))) = omega arith

bytes_name : Bytes (84 ∷ 85 ∷ 82 ∷ 78 ∷ [])
bytes_name zero = omega arith
bytes_name (suc zero) = omega arith
bytes_name (suc (suc zero)) = omega arith
bytes_name (suc (suc (suc zero))) = omega arith
bytes_name (suc (suc (suc (suc k)))) = omega arith

bytes_row : (xs : List ℕ) → Bytes (in_bytes xs)
unfolding in_bytes
bytes_row [] k = omega arith
bytes_row (x ∷ xs) k = bytes_append (word_bytes x) (in_bytes xs) (bytes_word x) (bytes_row xs) k

bare_bytes : (z : Sizes) (n : ℕ) → Bytes (bare z n)
unfolding bare start
bare_bytes z n =
    bytes_over (replicate n 0) 0 (start z) (bytes_zeros n)
    (bytes_append (84 ∷ 85 ∷ 82 ∷ 78 ∷ []) (in_bytes (z.processes ∷ z.opens ∷ z.pipes ∷ z.handles ∷ z.memory ∷ z.pipe ∷ z.file ∷ z.files ∷ z.screens ∷ z.turn ∷ [])) bytes_name
    (bytes_row (z.processes ∷ z.opens ∷ z.pipes ∷ z.handles ∷ z.memory ∷ z.pipe ∷ z.file ∷ z.files ∷ z.screens ∷ z.turn ∷ [])))

-- file i is put: its length, and its bytes
module _ (p : Shape) (fs : List (List ℕ)) where
  begins : ℕ → ℕ
  begins i = 512 * (data_at p + i * p.each)

  with_length : ℕ → List ℕ → List ℕ
  with_length i xs = over xs (1024 + 4 * i) (word_bytes (length (get_or fs i [])))

  with_file : ℕ → List ℕ → List ℕ
  with_file i xs = over (with_length i xs) (begins i) (get_or fs i [])

  with_files : ℕ → List ℕ → List ℕ
  with_files zero xs = xs
  with_files (suc i) xs = with_file i (with_files i xs)

  module _ (z : Sizes) (fit : Fit p) (short : (f : ℕ) → f < p.files → length (get_or fs f []) ≤ p.size) (bytes : (f : ℕ) → Bytes (get_or fs f [])) where
    one_more : (i : ℕ) (xs : List ℕ) → i < p.files → Laid z p fs i xs → Laid z p fs (i + 1) (with_file i xs)
    unfolding begins with_length with_file
    one_more i xs l laid =
        let few = fit.lengths in
        let deep = fit.deep in
        let bits = fit.bits in
        let small = fit.short in
        let s = short i l in
        let size = laid.size in
        let r = row_in i p.files p.each l in
        let n : length (with_length i xs) ≡ length xs = length_over xs (1024 + 4 * i) (word_bytes (length (get_or fs i []))) (omega arith) in
        laid_more z p fs i xs (with_file i xs) fit laid l short (length_over (with_length i xs) (begins i) (get_or fs i []) (omega arith) ∙ n)
        (word_over_out (with_length i xs) (begins i) (get_or fs i []) (1024 + 4 * i) (omega arith) (inl (omega arith)) ∙ word_over xs (1024 + 4 * i) (length (get_or fs i [])) (omega arith))
        (λ k u. get_or_over_in (with_length i xs) (begins i) (get_or fs i []) k 0 u)
        (λ k o q. get_or_over_out (with_length i xs) (begins i) (get_or fs i []) k 0 (omega arith) q
        ∙ get_or_over_out xs (1024 + 4 * i) (word_bytes (length (get_or fs i []))) k 0 (omega arith) (apart i k o))
      where
        apart : (i k : ℕ) → (k < 1024 + 4 * i) ⊎ (1028 + 4 * i ≤ k) → (k < 1024 + 4 * i) ⊎ (1024 + 4 * i + 4 ≤ k)
        apart i k (inl u) = inl u
        apart i k (inr u) = inr (omega arith)

    all_more : (i : ℕ) (xs : List ℕ) → i ≤ p.files → Laid z p fs 0 xs → Laid z p fs i (with_files i xs)
    unfolding with_files
    all_more zero xs l laid = laid
    all_more (suc i) xs l laid =
        let e : i + 1 ≡ suc i = omega arith in
        subst (λ (n : ℕ). Laid z p fs n (with_file i (with_files i xs))) e (one_more i (with_files i xs) (omega arith) (all_more i xs (omega arith) laid))

    all_bytes : (i : ℕ) (xs : List ℕ) → Bytes xs → Bytes (with_files i xs)
    unfolding with_files with_file with_length
    all_bytes zero xs h = h
    all_bytes (suc i) xs h =
        bytes_over (with_length i (with_files i xs)) (begins i) (get_or fs i [])
        (bytes_over (with_files i xs) (1024 + 4 * i) (word_bytes (length (get_or fs i []))) (all_bytes i xs h) (bytes_word (length (get_or fs i [])))) (bytes i)

pub every_list : EveryList
every_list z fs f =
    let fit = fits z f.sizes in
    let p = plan_of z in
    let n : 44 ≤ 512 * room (plan_of z) = omega arith in
    let l : Laid z (plan_of z) fs 0 (bare z (512 * room (plan_of z))) =
    laid_none z (plan_of z) fs (bare z (512 * room (plan_of z))) (bare_length z (512 * room (plan_of z)) n) (bare_name z (512 * room (plan_of z))) (bare_sizes z (512 * room (plan_of z)) f.sizes)
    (λ k u _. bare_others z (512 * room (plan_of z)) k u) in (
      blocks (with_files (plan_of z) fs z.files (bare z (512 * room (plan_of z)))),
      laid_holds z fs (with_files (plan_of z) fs z.files (bare z (512 * room (plan_of z)))) f.sizes f.count (λ g _. f.short g)
          (all_more (plan_of z) fs z fit (λ g _. f.short g) f.bytes z.files (bare z (512 * room (plan_of z))) (omega arith) l)
          (all_bytes (plan_of z) fs z fit (λ g _. f.short g) f.bytes z.files (bare z (512 * room (plan_of z))) (bare_bytes z (512 * room (plan_of z)))),
    )
