-- Bytes of headers and of files, as the code finds them. Assumes nothing.
use Rattle.std.proofs.Common.{◌≡◌, ℕ, zero, suc, ◌+◌, ◌-◌, ◌*◌, ◌/◌, ◌%◌, ◌^◌, ◌<◌, ◌≤◌, List, [], map, length, get_or, take, drop, sym, refl, ap, ◌∙◌, ⊎_elim, mul-le-mul_right, mul-le-mul, arith}
use Rattle.std.specs.List.{range_with_len, flat_map}
use Rattle.std.proofs.lemmas.Nat.{mul-add-lt}
use Rattle.std.proofs.lemmas.List.FromFn.{fill_by_all}
use Rattle.std.proofs.lemmas.List.{length-append, length-take, length-drop, get_or_append_left, get_or-append_right, get_or-take, get_or-drop, take-take, drop-take, drop-drop}
use Rattle.std.proofs.lemmas.Bool.{cases_lt}
use Rattle.octets.specs.Words.{word_at}
use Rattle.turns.specs.Ranges.{InRange}
use Rattle.turns.specs.declared.vocabulary.Sizes.{Sizes}
use Rattle.disc.specs.Blocks.{Disc, at, blocks, block_of}
use Rattle.disc.specs.Layout.{Shape, Header, plan_of, Fit, head_at, place, room, current, header, current_header, length_in, copy_in, cell, file_in}
use Rattle.disc.proofs.Cuts.{length_blocks, get_or_blocks, blocks_whole}

pub below_two : (P : ℕ → Type 0) → P 0 → P 1 → (c : ℕ) → c < 2 → P c
below_two P a b zero h = a
below_two P a b (suc zero) h = b
below_two P a b (suc (suc c)) h = absurd (omega arith)

-- the blocks of file f end where those of the next begin
pub row_in : (f n e : ℕ) → f < n → f * e + e ≤ n * e
row_in f n e h = let m : (f + 1) * e ≤ n * e = mul-le-mul_right e (omega arith) in omega arith

-- the plan of sizes in range fits
pub fits : (z : Sizes) → InRange z → Fit (plan_of z)
fits z r =
    let s = r.file in
    let e : (z.file + 511) / 512 ≤ 512 = omega arith in
    let m : z.files * ((z.file + 511) / 512) ≤ 64 * 512 = mul-le-mul r.files.1 e in
    let n = r.files.1 in
    record { lengths = n; bits = omega arith; deep = omega arith; small = omega arith; few = omega arith; short = s }

-- a byte of a block, and a word
pub byte_of : (xs : List ℕ) (q r : ℕ) → r < 512 → q < length xs / 512 → get_or (at (blocks xs) q) r 0 ≡ get_or xs (512 * q + r) 0
byte_of xs q r h k = ap (λ (v : List ℕ). get_or v r 0) (get_or_blocks xs q [] k) ∙ get_or-take 512 (drop (512 * q) xs) r 0 h ∙ get_or-drop (512 * q) xs r 0

pub word_of : (xs : List ℕ) (q r : ℕ) → r + 4 ≤ 512 → q < length xs / 512 → word_at (at (blocks xs) q) r ≡ word_at xs (512 * q + r)
word_of xs q r h k =
    let a = byte_of xs q r (omega arith) k in
    let b = later 1 (omega arith) in
    let c = later 2 (omega arith) in
    let d = later 3 (omega arith) in
    omega arith
  where
    later : (i : ℕ) → i < 4 → get_or (at (blocks xs) q) (r + i) 0 ≡ get_or xs (512 * q + r + i) 0
    later i l = let e : 512 * q + (r + i) ≡ 512 * q + r + i = omega arith in byte_of xs q (r + i) (omega arith) k ∙ ap (λ (n : ℕ). get_or xs n 0) e

-- the first block is what the bytes begin with
pub first_byte : (xs : List ℕ) (r : ℕ) → r < 512 → 512 ≤ length xs → get_or (at (blocks xs) 0) r 0 ≡ get_or xs r 0
first_byte xs r h l = let e : 512 * 0 + r ≡ r = omega arith in byte_of xs 0 r h (omega arith) ∙ ap (λ (n : ℕ). get_or xs n 0) e

pub first_word : (xs : List ℕ) (r : ℕ) → r + 4 ≤ 512 → 512 ≤ length xs → word_at (at (blocks xs) 0) r ≡ word_at xs r
first_word xs r h l = let e : 512 * 0 + r ≡ r = omega arith in word_of xs 0 r h (omega arith) ∙ ap (word_at xs) e

-- the root block
pub current_byte : (xs : List ℕ) → 1024 ≤ length xs → current (blocks xs) ≡ get_or xs 512 0 % 2
unfolding current
current_byte xs l = ap (λ (v : ℕ). v % 2) (byte_of xs 1 0 (omega arith) (omega arith))

pub current_two : (d : Disc) → current d < 2
unfolding current
current_two d = omega arith

-- lengths and bits
pub length_bytes : (xs : List ℕ) (f : ℕ) → 512 ≤ length xs → f < 128 → length_in (blocks xs) f ≡ word_at xs (4 * f)
unfolding length_in
length_bytes xs f l u = first_word xs (4 * f) (omega arith) l

pub copy_byte : (xs : List ℕ) (j : ℕ) → 512 * (2 + j / 4096) ≤ length xs → copy_in (blocks xs) j ≡ get_or xs (512 + j / 8) 0 / 2 ^ (j % 8) % 2
unfolding copy_in
copy_byte xs j h =
    let e : 512 * (1 + j / 4096) + j / 8 % 512 ≡ 512 + j / 8 = omega arith in
    ap (λ (v : ℕ). v / 2 ^ (j % 8) % 2) (byte_of xs (1 + j / 4096) (j / 8 % 512) (omega arith) (omega arith) ∙ ap (λ (n : ℕ). get_or xs n 0) e)

pub copy_two : (h : Header) (j : ℕ) → copy_in h j < 2
unfolding copy_in
copy_two h j = omega arith

-- a part of the bytes that is a row of blocks
pub blocks_part : (xs : List ℕ) (k n m : ℕ) → m ≡ 512 * n → 512 * (k + n) ≤ length xs → blocks (take m (drop (512 * k) xs)) ≡ map (λ i. at (blocks xs) (k + i)) (range_with_len 0 n)
blocks_part xs k n m e h =
    let l : length (take m (drop (512 * k) xs)) ≡ 512 * n = simp (length-take, length-drop) (omega arith) in
    let q : length (take m (drop (512 * k) xs)) / 512 ≡ n = omega arith in
    fill_by_all (λ i. at (blocks xs) (k + i)) (blocks (take m (drop (512 * k) xs))) n [] (length_blocks (take m (drop (512 * k) xs)) ∙ q)
    (λ i u. get_or_blocks (take m (drop (512 * k) xs)) i [] (omega arith) ∙ inner i u ∙ sym (get_or_blocks xs (k + i) [] (omega arith)))
  where
    inner : (i : ℕ) → i < n → block_of (take m (drop (512 * k) xs)) i ≡ block_of xs (k + i)
    inner i u =
        let a : 512 * i + (m - 512 * i) ≡ m = omega arith in
        let b : 512 * k + 512 * i ≡ 512 * (k + i) = omega arith in
        ap (λ (v : ℕ). take 512 (drop (512 * i) (take v (drop (512 * k) xs)))) (sym a)
        ∙ ap (take 512) (drop-take (512 * i) (m - 512 * i) (drop (512 * k) xs))
        ∙ take-take 512 (m - 512 * i) (drop (512 * i) (drop (512 * k) xs)) (omega arith)
        ∙ ap (take 512) (drop-drop (512 * i) (512 * k) xs ∙ ap (λ (v : ℕ). drop v xs) b)

pub header_bytes : (p : Shape) (xs : List ℕ) (k m : ℕ) → m ≡ 512 * p.head → k ≡ head_at p (current (blocks xs)) → 512 * (k + p.head) ≤ length xs →
    blocks (take m (drop (512 * k) xs)) ≡ current_header p (blocks xs)
unfolding current_header header
header_bytes p xs k m e f h = blocks_part xs k p.head m e h ∙ ap (λ (v : ℕ). map (λ i. at (blocks xs) (v + i)) (range_with_len 0 p.head)) f

-- blocks of 512 bytes, one after the other
pub joined_length : (g : ℕ → List ℕ) (a n : ℕ) → ((i : ℕ) → a ≤ i → i < a + n → length (g i) ≡ 512) → length (flat_map g (range_with_len a n)) ≡ 512 * n
joined_length g a zero e = refl
joined_length g a (suc n) e =
    let h : length (g a) ≡ 512 = e a (omega arith) (omega arith) in
    let i = joined_length g (a + 1) n (λ i l u. e i (omega arith) (omega arith)) in
    length-append (g a) (flat_map g (range_with_len (a + 1) n)) ∙ omega arith

pub joined_at : (g : ℕ → List ℕ) (a n : ℕ) → ((i : ℕ) → a ≤ i → i < a + n → length (g i) ≡ 512) → (q : ℕ) → q < 512 * n →
    get_or (flat_map g (range_with_len a n)) q 0 ≡ get_or (g (a + q / 512)) (q % 512) 0
joined_at g a zero e q l = absurd (omega arith)
joined_at g a (suc n) e q l =
    let h : length (g a) ≡ 512 = e a (omega arith) (omega arith) in
    ⊎_elim
    (λ (u : q < 512).
    let x : a + q / 512 ≡ a = omega arith in
    let y : q % 512 ≡ q = omega arith in
    get_or_append_left (g a) (flat_map g (range_with_len (a + 1) n)) 0 q (omega arith) ∙ sym (ap (λ (v : ℕ). get_or (g v) (q % 512) 0) x ∙ ap (λ (v : ℕ). get_or (g a) v 0) y))
    (λ (u : 512 ≤ q).
    let x : a + 1 + (q - 512) / 512 ≡ a + q / 512 = omega arith in
    let y : (q - 512) % 512 ≡ q % 512 = omega arith in
    get_or-append_right (g a) (flat_map g (range_with_len (a + 1) n)) 512 q 0 h u
    ∙ joined_at g (a + 1) n (λ i m w. e i (omega arith) (omega arith)) (q - 512) (omega arith)
    ∙ ap (λ (v : ℕ). get_or (g v) ((q - 512) % 512) 0) x
    ∙ ap (λ (v : ℕ). get_or (g (a + q / 512)) v 0) y)
    (cases_lt q 512)

pub place_low : (p : Shape) (j : ℕ) → j < p.files * p.each → (c : ℕ) → c < 2 → place p c j < room p
place_low p j l = below_two (λ c. place p c j < room p) (omega arith) (omega arith)

-- the blocks of a file
module _ (p : Shape) (h : Header) (xs : List ℕ) (f : ℕ) (l : f < p.files) (big : 512 * room p ≤ length xs) where
  index_in : (b : ℕ) → b < p.each → f * p.each + b < p.files * p.each
  index_in b u = omega (arith, mul-add-lt f p.each b p.files l u)

  cell_whole : (b : ℕ) → b < p.each → length (cell p h (blocks xs) (f * p.each + b)) ≡ 512
  unfolding cell
  cell_whole b u =
      let r = place_low p (f * p.each + b) (index_in b u) (copy_in h (f * p.each + b)) (copy_two h (f * p.each + b)) in
      let n = length_blocks xs in
      blocks_whole xs (place p (copy_in h (f * p.each + b)) (f * p.each + b)) (omega arith)

  raw : List ℕ
  raw = flat_map (λ b. cell p h (blocks xs) (f * p.each + b)) (range_with_len 0 p.each)

  raw_length : length raw ≡ 512 * p.each
  unfolding raw
  raw_length = joined_length (λ b. cell p h (blocks xs) (f * p.each + b)) 0 p.each (λ b _ u. cell_whole b (omega arith))

  raw_at : (q : ℕ) → q < 512 * p.each → get_or raw q 0 ≡ get_or xs (512 * place p (copy_in h (f * p.each + q / 512)) (f * p.each + q / 512) + q % 512) 0
  unfolding raw cell
  raw_at q u =
      let o : 0 + q / 512 ≡ q / 512 = omega arith in
      let r = place_low p (f * p.each + q / 512) (index_in (q / 512) (omega arith)) (copy_in h (f * p.each + q / 512)) (copy_two h (f * p.each + q / 512)) in
      joined_at (λ b. cell p h (blocks xs) (f * p.each + b)) 0 p.each (λ b _ w. cell_whole b (omega arith)) q u
      ∙ ap (λ (x : ℕ). get_or (cell p h (blocks xs) (f * p.each + x)) (q % 512) 0) o
      ∙ byte_of xs (place p (copy_in h (f * p.each + q / 512)) (f * p.each + q / 512)) (q % 512) (omega arith) (omega arith)

  -- how long a file is that is no longer than its blocks
  pub file_length : length_in h f ≤ 512 * p.each → length (file_in p h (blocks xs) f) ≡ length_in h f
  unfolding file_in raw
  file_length u = let n = raw_length in length-take (length_in h f) raw ∙ omega arith

  -- a byte of a file
  pub file_byte : (q b : ℕ) → q < length_in h f → q < 512 * p.each → b ≡ place p (copy_in h (f * p.each + q / 512)) (f * p.each + q / 512) →
      get_or xs (512 * b + q % 512) 0 ≡ get_or (file_in p h (blocks xs) f) q 0
  unfolding file_in raw
  file_byte q b u w e = ap (λ (x : ℕ). get_or xs (512 * x + q % 512) 0) e ∙ sym (get_or-take (length_in h f) raw q 0 u ∙ raw_at q w)
