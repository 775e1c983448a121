-- An image that is laid out step by step: what holds after each file, and that a whole one is a disc that holds them. Assumes nothing.
use Rattle.std.proofs.Common.{◌≡◌, ℕ, Bool, ltb, map, ◌+◌, ◌-◌, ◌*◌, ◌/◌, ◌%◌, ◌^◌, ◌<◌, ◌≤◌, true, ◌⊎◌, List, [], ◌∷◌, ◌++◌, length, get_or, take, drop, replicate, sym, refl, ap, ◌∙◌, subst, inl, inr, ⊎_elim, arith}
use native.Mathlib.Nat.{zero-div}
use borrow.Rule.Slice.PartMut.{put_mid}
use Rattle.std.proofs.lemmas.List.{length-take, get_or_append_left, get_or-append_right, get_or-take, get_or-drop, ext_get_or}
use Rattle.std.proofs.lemmas.List.FromFn.{get_or-map-range_with_len, fill_by_all}
use Rattle.std.proofs.lemmas.Nat.{mul-add-lt}
use Rattle.std.proofs.lemmas.Slice.{drop-put_mid}
use Rattle.std.specs.Prelude.{false, Some, None, not, position, if◌then◌else◌}
use Rattle.std.specs.List.{position_or_len}
use Rattle.std.proofs.lemmas.Bool.{cond-true, cases_lt, ltb-true, ltb-false, lt-ltb}
use Rattle.std.proofs.lemmas.List.{length-map}
use Rattle.std.proofs.lemmas.List.Sums.{fails_before_first}
use Rattle.std.proofs.lemmas.List.Quantifiers.{position-Some}
use Rattle.octets.specs.Rows.{over, Bytes}
use Rattle.octets.specs.Words.{word_at, word_bytes}
use Rattle.octets.proofs.Over.{length_over, get_or_over_out}
use Rattle.octets.proofs.Tests.{get_or_all}
use Rattle.octets.proofs.Numbers.{word_over, word_over_out}
use Rattle.turns.specs.Ranges.{InRange, Fits}
use Rattle.turns.specs.declared.vocabulary.Sizes.{Sizes}
use Rattle.disc.specs.Blocks.{at, blocks}
use Rattle.disc.specs.Layout.{Shape, plan_of, head_at, data_at, place, room, current, header, current_header, length_in, copy_in, file_in, files_in, files_on, Sound, Fit}
use Rattle.disc.specs.Check.{named, sizes_in, Holds}
use Rattle.disc.specs.Format.{image_length, Short, Misfits, Planned, Laid}
use Rattle.disc.specs.declared.format.Misfit.{Misfit}
use Rattle.disc.specs.declared.format.Misfit.TheVariants.{Size, Count, File, Image}
use Rattle.disc.proofs.Cuts.{length_blocks, blocks_whole}
use Rattle.disc.proofs.Places.{row_in, fits, byte_of, word_of, current_byte, file_length, file_byte}
use Rattle.disc.proofs.Verdicts.{named_first, sizes_first, block_bytes, if_range}

-- a byte of a part that was overwritten, and any other
pub put_mid_in : (a n : ℕ) (xs ys : List ℕ) (k : ℕ) → a ≤ length xs → k < length ys → get_or (put_mid a n xs ys) (a + k) 0 ≡ get_or ys k 0
put_mid_in a n xs ys k l h =
    let t : length (take a xs) ≡ a = length-take a xs ∙ omega arith in
    let e : a + k - a ≡ k = omega arith in
    get_or-append_right (take a xs) _ a (a + k) 0 t (omega arith) ∙ rw e (get_or_append_left ys _ 0 k h)

pub put_mid_out : (a n : ℕ) (xs ys : List ℕ) (k : ℕ) → a + n ≤ length xs → length ys ≡ n → (k < a) ⊎ (a + n ≤ k) → get_or (put_mid a n xs ys) k 0 ≡ get_or xs k 0
put_mid_out a n xs ys k l e (inl h) =
    let t : length (take a xs) ≡ a = length-take a xs ∙ omega arith in get_or_append_left (take a xs) _ 0 k (omega arith) ∙ get_or-take a xs k 0 h
put_mid_out a n xs ys k l e (inr h) =
    let z : k + 0 ≡ k = omega arith in
    ap (λ (i : ℕ). get_or (put_mid a n xs ys) i 0) (sym z) ∙ sym (get_or-drop k (put_mid a n xs ys) 0 0)
    ∙ ap (λ (v : List ℕ). get_or v 0 0) (drop-put_mid a n xs ys k h (omega arith) e)
    ∙ get_or-drop k xs 0 0
    ∙ ap (λ (i : ℕ). get_or xs i 0) z

-- bytes that are the same make the same word
pub word_same : (xs ys : List ℕ) (a : ℕ) → ((k : ℕ) → a ≤ k → k < a + 4 → get_or ys k 0 ≡ get_or xs k 0) → word_at ys a ≡ word_at xs a
word_same xs ys a h =
    rw (h a (omega arith) (omega arith), h (a + 1) (omega arith) (omega arith), h (a + 2) (omega arith) (omega arith), h (a + 3) (omega arith) (omega arith))

-- one word more
pub words_more : (xs entry words : List ℕ) (i v : ℕ) → 4 + 4 * i + 4 ≤ length xs → v < 2 ^ 32 → v ≡ get_or words i 0 →
    ((k : ℕ) → k < i → word_at xs (4 + 4 * k) ≡ get_or words k 0) → ((k : ℕ) → (k < 4) ⊎ (4 + 4 * i ≤ k) → get_or xs k 0 ≡ get_or entry k 0) →
    ((k : ℕ) → k < i + 1 → word_at (over xs (4 + 4 * i) (word_bytes v)) (4 + 4 * k) ≡ get_or words k 0)
    × ((k : ℕ) → (k < 4) ⊎ (4 + 4 * (i + 1) ≤ k) → get_or (over xs (4 + 4 * i) (word_bytes v)) k 0 ≡ get_or entry k 0)
words_more xs entry words i v l s e h o = (
  λ k u.
      ⊎_elim (λ (q : k < i). word_over_out xs (4 + 4 * i) (word_bytes v) (4 + 4 * k) (omega arith) (inl (omega arith)) ∙ h k q)
      (λ (q : i ≤ k). let r : k ≡ i = omega arith in rw r (word_over xs (4 + 4 * i) v s ∙ e))
      (cases_lt k i),
  λ k u. get_or_over_out xs (4 + 4 * i) (word_bytes v) k 0 (omega arith) (outside k u) ∙ o k (before k u),
)
  where
    outside : (k : ℕ) → (k < 4) ⊎ (4 + 4 * (i + 1) ≤ k) → (k < 4 + 4 * i) ⊎ (4 + 4 * i + 4 ≤ k)
    outside k (inl a) = inl (omega arith)
    outside k (inr a) = inr (omega arith)

    before : (k : ℕ) → (k < 4) ⊎ (4 + 4 * (i + 1) ≤ k) → (k < 4) ⊎ (4 + 4 * i ≤ k)
    before k (inl a) = inl a
    before k (inr a) = inr (omega arith)

-- what lies behind the name stays
pub name_other : (xs ys : List ℕ) (k : ℕ) → length ys ≡ 4 → 4 ≤ k → get_or (ys ++ drop 4 xs) k 0 ≡ get_or xs k 0
name_other xs ys k e h = let q : 4 + (k - 4) ≡ k = omega arith in get_or-append_right ys (drop 4 xs) 4 k 0 e h ∙ get_or-drop 4 xs (k - 4) 0 ∙ ap (λ (i : ℕ). get_or xs i 0) q

-- the sizes
pub sizes_are : (xs : List ℕ) (z : Sizes) →
    ((k : ℕ) → k < 10 → word_at xs (4 + 4 * k) ≡ get_or (z.processes ∷ z.opens ∷ z.pipes ∷ z.handles ∷ z.memory ∷ z.pipe ∷ z.file ∷ z.files ∷ z.screens ∷ z.turn ∷ []) k 0) → sizes_in xs ≡ z
unfolding sizes_in
sizes_are xs z h =
    rw (h 0 (omega arith), h 1 (omega arith), h 2 (omega arith), h 3 (omega arith), h 4 (omega arith), h 5 (omega arith), h 6 (omega arith), h 7 (omega arith), h 8 (omega arith), h 9 (omega arith))

-- where no place is found, the test fails at all of them
position_none : {X : Type 0} (test : X → Bool) (xs : List X) → position test xs ≡ None → (k : ℕ) (d : X) → k < length xs → test (get_or xs k d) ≡ false
position_none test xs e k d l =
    ⊎_elim
    (λ (u : position_or_len test xs < length xs).
    let z : ◌≡◌ {A = ℕ} 0 1 = cc (cond-true _ (Some (position_or_len test xs)) None (lt-ltb (position_or_len test xs) (length xs) u)) in absurd (omega arith))
    (λ (u : length xs ≤ position_or_len test xs). fails_before_first test xs k d (omega arith))
    (cases_lt (position_or_len test xs) (length xs))

-- the first file that is too long, where each file is seen as its row of bytes
module _ {V : Type 0} (row : V → List ℕ) (long : List ℕ → Bool) where
  place_map : (vs : List V) → position_or_len (λ v. long (row v)) vs ≡ position_or_len long (map row vs)
  place_map [] = refl
  place_map (v ∷ vs) = ap (λ (n : ℕ). if not (long (row v)) then 1 + n else 0) (place_map vs)

  position_map : (vs : List V) → position (λ v. long (row v)) vs ≡ position long (map row vs)
  position_map vs = rw (place_map vs, length-map vs row) refl

module _ {V : Type 0} (z : Sizes) (row : V → List ℕ) (vs : List V) where
  pub long_at : (f : ℕ) → position (λ v. ltb z.file (length (row v))) vs ≡ Some f →
      (f < length vs) × (z.file < length (get_or (map row vs) f [])) × Short z (map row vs) f
  long_at f e =
      let s = position-Some (λ (bs : List ℕ). ltb z.file (length bs)) (map row vs) f [] (sym (position_map row (λ bs. ltb z.file (length bs)) vs) ∙ e) in
      let n = length-map vs row in
      (omega (arith, s.0), ltb-true _ _ s.1, λ g l. ltb-false _ _ (s.2 g l))

  pub long_nowhere : position (λ v. ltb z.file (length (row v))) vs ≡ None → Short z (map row vs) (length vs)
  long_nowhere e f l =
      let n = length-map vs row in
      ltb-false _ _ (position_none (λ (bs : List ℕ). ltb z.file (length bs)) (map row vs) (sym (position_map row (λ bs. ltb z.file (length bs)) vs) ∙ e) f [] (omega arith))

-- one file
filed : (xs w ys bs : List ℕ) (a m f n : ℕ) → w ≡ over xs (1024 + 4 * f) (word_bytes n) → word_at w (1024 + 4 * f) ≡ n → ys ≡ bs → m ≡ length bs → n ≡ length bs → 1028 + 4 * f ≤ a →
    a + m ≤ length xs →
    (word_at (put_mid a m w ys) (1024 + 4 * f) ≡ length bs) × ((k : ℕ) → k < length bs → get_or (put_mid a m w ys) (a + k) 0 ≡ get_or bs k 0)
    × ((k : ℕ) → (k < 1024 + 4 * f) ⊎ (1028 + 4 * f ≤ k) → (k < a) ⊎ (a + length bs ≤ k) → get_or (put_mid a m w ys) k 0 ≡ get_or xs k 0)
filed xs w ys bs a m f n over-is word copy size long low high =
    let lw : length w ≡ length xs = ap length over-is ∙ length_over xs (1024 + 4 * f) (word_bytes n) (omega arith) in
    let ly : length ys ≡ m = ap length copy ∙ sym size in (
      word_same w (put_mid a m w ys) (1024 + 4 * f) (λ k l u. put_mid_out a m w ys k (omega arith) ly (inl (omega arith))) ∙ word ∙ long,
      (λ k u. put_mid_in a m w ys k (omega arith) (omega arith) ∙ ap (λ (v : List ℕ). get_or v k 0) copy),
      λ k o q. put_mid_out a m w ys k (omega arith) ly (outside k q)
          ∙ ap (λ (v : List ℕ). get_or v k 0) over-is
          ∙ get_or_over_out xs (1024 + 4 * f) (word_bytes n) k 0 (omega arith) (apart k o),
    )
  where
    outside : (k : ℕ) → (k < a) ⊎ (a + length bs ≤ k) → (k < a) ⊎ (a + m ≤ k)
    outside k (inl u) = inl u
    outside k (inr u) = inr (omega arith)

    apart : (k : ℕ) → (k < 1024 + 4 * f) ⊎ (1028 + 4 * f ≤ k) → (k < 1024 + 4 * f) ⊎ (1024 + 4 * f + 4 ≤ k)
    apart k (inl u) = inl u
    apart k (inr u) = inr (omega arith)

-- the same, where the code has found the place of the file's blocks
pub filed_at : (xs w ys bs : List ℕ) (a b m f n : ℕ) → a ≡ b → w ≡ over xs (1024 + 4 * f) (word_bytes n) → word_at w (1024 + 4 * f) ≡ n → ys ≡ bs → m ≡ length bs → n ≡ length bs →
    1028 + 4 * f ≤ a → a + m ≤ length xs →
    (word_at (put_mid a m w ys) (1024 + 4 * f) ≡ length bs) × ((k : ℕ) → k < length bs → get_or (put_mid a m w ys) (b + k) 0 ≡ get_or bs k 0)
    × ((k : ℕ) → (k < 1024 + 4 * f) ⊎ (1028 + 4 * f ≤ k) → (k < b) ⊎ (b + length bs ≤ k) → get_or (put_mid a m w ys) k 0 ≡ get_or xs k 0)
filed_at xs w ys bs a b m f n e o r c s l low high =
    subst
    (λ (i : ℕ). (word_at (put_mid a m w ys) (1024 + 4 * f) ≡ length bs) × ((k : ℕ) → k < length bs → get_or (put_mid a m w ys) (i + k) 0 ≡ get_or bs k 0)
    × ((k : ℕ) → (k < 1024 + 4 * f) ⊎ (1028 + 4 * f ≤ k) → (k < i) ⊎ (i + length bs ≤ k) → get_or (put_mid a m w ys) k 0 ≡ get_or xs k 0))
    e (filed xs w ys bs a m f n o r c s l low high)

-- what block 0 begins with stays
named_same : (xs ys : List ℕ) → ((k : ℕ) → k < 44 → get_or ys k 0 ≡ get_or xs k 0) → named ys ≡ named xs
named_same xs ys h = rw (h 0 (omega arith), h 1 (omega arith), h 2 (omega arith), h 3 (omega arith))

sizes_same : (xs ys : List ℕ) → ((k : ℕ) → k < 44 → get_or ys k 0 ≡ get_or xs k 0) → sizes_in ys ≡ sizes_in xs
unfolding sizes_in
sizes_same xs ys h =
    rw (
      same 4 (omega arith),
      same 8 (omega arith),
      same 12 (omega arith),
      same 16 (omega arith),
      same 20 (omega arith),
      same 24 (omega arith),
      same 28 (omega arith),
      same 32 (omega arith),
      same 36 (omega arith),
      same 40 (omega arith),
    )
  where
    same : (a : ℕ) → a + 4 ≤ 44 → word_at ys a ≡ word_at xs a
    same a l = word_same xs ys a (λ k _ u. h k (omega arith))

-- an image without files
pub laid_none : (z : Sizes) (p : Shape) (fs : List (List ℕ)) (xs : List ℕ) → length xs ≡ 512 * room p → named xs ≡ true → sizes_in xs ≡ z → ((k : ℕ) → 44 ≤ k → k < length xs → get_or xs k 0 ≡ 0) →
    Laid z p fs 0 xs
laid_none z p fs xs size name sizes bare =
    record {
      size = size;
      name = name;
      sizes = sizes;
      root = bare 512 (omega arith) (omega arith);
      bits = λ k l u. bare k (omega arith) (omega arith);
      lengths = λ f l. absurd (omega arith);
      held = λ f l. absurd (omega arith);
    }

-- one file more
module _ (z : Sizes) (p : Shape) (fs : List (List ℕ)) (i : ℕ) (xs ys : List ℕ) (fit : Fit p) (laid : Laid z p fs i xs) (within : i < p.files)
    (short : (f : ℕ) → f < p.files → length (get_or fs f []) ≤ p.size) (size : length ys ≡ length xs) (long : word_at ys (1024 + 4 * i) ≡ length (get_or fs i []))
    (held : (k : ℕ) → k < length (get_or fs i []) → get_or ys (512 * (data_at p + i * p.each) + k) 0 ≡ get_or (get_or fs i []) k 0)
    (others : (k : ℕ) → (k < 1024 + 4 * i) ⊎ (1028 + 4 * i ≤ k) → (k < 512 * (data_at p + i * p.each)) ⊎ (512 * (data_at p + i * p.each) + length (get_or fs i []) ≤ k) → get_or ys k 0 ≡ get_or xs k 0) where
  one : 1 ≤ p.head
  one = let b = fit.bits in omega arith

  -- below the files only the length changes
  low : (k : ℕ) → k < 512 * data_at p → (k < 1024 + 4 * i) ⊎ (1028 + 4 * i ≤ k) → get_or ys k 0 ≡ get_or xs k 0
  low k l o = others k o (inl (omega arith))

  -- a file before this one ends where this one begins
  before : (f : ℕ) → f < i → f * p.each + p.each ≤ i * p.each
  before f l = row_in f i p.each l

  pub laid_more : Laid z p fs (i + 1) ys
  laid_more =
      let h = one in
      record {
        size = size ∙ laid.size;
        name = named_same xs ys (λ k l. low k (omega arith) (inl (omega arith))) ∙ laid.name;
        sizes = sizes_same xs ys (λ k l. low k (omega arith) (inl (omega arith))) ∙ laid.sizes;
        root = low 512 (omega arith) (inl (omega arith)) ∙ laid.root;
        bits = λ k l u. let few = fit.lengths in low k (omega arith) (inr (omega arith)) ∙ laid.bits k l u;
        lengths = λ f l. ⊎_elim
            (λ (e : f < i). let few = fit.lengths in
            word_same xs ys (1024 + 4 * f) (λ k a b. low k (omega arith) (inl (omega arith))) ∙ laid.lengths f e)
            (λ (e : i ≤ f). let q : f ≡ i = omega arith in rw q long) (cases_lt f i);
        held = λ f l. ⊎_elim
            (λ (e : f < i). λ k u.
            let r = before f e in
            let s = short f (omega arith) in
            let d = fit.deep in
            let few = fit.lengths in
            others (512 * (data_at p + f * p.each) + k) (inr (omega arith)) (inl (omega arith)) ∙ laid.held f e k u)
            (λ (e : i ≤ f). let q : f ≡ i = omega arith in rw q held) (cases_lt f i);
      }

-- A WHOLE IMAGE. Where its files are found
module _ (z : Sizes) (p : Shape) (fs : List (List ℕ)) (xs : List ℕ) (fit : Fit p) (one : 1 ≤ p.head) (laid : Laid z p fs p.files xs)
    (short : (f : ℕ) → f < p.files → length (get_or fs f []) ≤ p.size) where
  root_first : current (blocks xs) ≡ 0
  root_first = let s = laid.size in current_byte xs (omega arith) ∙ rw laid.root

  head_first : (i : ℕ) → i < p.head → at (current_header p (blocks xs)) i ≡ at (blocks xs) (2 + i)
  unfolding current_header header
  head_first i l =
      get_or-map-range_with_len (λ j. at (blocks xs) (head_at p (current (blocks xs)) + j)) 0 p.head i i [] l (omega arith)
      ∙ ap (λ (c : ℕ). at (blocks xs) (head_at p c + i)) root_first
      ∙ ap (at (blocks xs)) (omega arith)

  lengths_first : (f : ℕ) → f < p.files → length_in (current_header p (blocks xs)) f ≡ length (get_or fs f [])
  unfolding length_in
  lengths_first f l =
      let s = laid.size in
      let few = fit.lengths in
      let e : 512 * (2 + 0) + 4 * f ≡ 1024 + 4 * f = omega arith in
      ap (λ (b : List ℕ). word_at b (4 * f)) (head_first 0 (omega arith)) ∙ word_of xs (2 + 0) (4 * f) (omega arith) (omega arith) ∙ ap (word_at xs) e ∙ laid.lengths f l

  copies_first : (j : ℕ) → j < p.files * p.each → copy_in (current_header p (blocks xs)) j ≡ 0
  unfolding copy_in
  copies_first j l =
      let s = laid.size in
      let b = fit.bits in
      let e : 512 * (2 + (1 + j / 4096)) + j / 8 % 512 ≡ 1536 + j / 8 = omega arith in
      let z : get_or (at (current_header p (blocks xs)) (1 + j / 4096)) (j / 8 % 512) 0 ≡ 0 =
      ap (λ (v : List ℕ). get_or v (j / 8 % 512) 0) (head_first (1 + j / 4096) (omega arith)) ∙ byte_of xs (2 + (1 + j / 4096)) (j / 8 % 512) (omega arith) (omega arith)
      ∙ ap (λ (n : ℕ). get_or xs n 0) e ∙ laid.bits (1536 + j / 8) (omega arith) (omega arith) in
      rw z (ap (λ (n : ℕ). n % 2) (zero-div (2 ^ (j % 8))))

  file_laid : (f : ℕ) → f < p.files → file_in p (current_header p (blocks xs)) (blocks xs) f ≡ get_or fs f []
  file_laid f l =
      let s = laid.size in
      let n = lengths_first f l in
      let o = short f l in
      let d = fit.deep in
      let m : length (file_in p (current_header p (blocks xs)) (blocks xs) f) ≡ length (get_or fs f []) =
      file_length p (current_header p (blocks xs)) xs f l (omega arith) (omega arith) ∙ n in
      ext_get_or 0 _ _ m (λ q u.
      let j : f * p.each + q / 512 < p.files * p.each = omega (arith, mul-add-lt f p.each (q / 512) p.files l (omega arith)) in
      let c = copies_first (f * p.each + q / 512) j in
      let e : 512 * place p 0 (f * p.each + q / 512) + q % 512 ≡ 512 * (data_at p + f * p.each) + q = omega arith in
      sym (file_byte p (current_header p (blocks xs)) xs f l (omega arith) q (place p 0 (f * p.each + q / 512)) (omega arith) (omega arith) (rw c refl))
      ∙ ap (λ (n : ℕ). get_or xs n 0) e ∙ laid.held f l q (omega arith))

  files_laid : length fs ≡ p.files → files_on p (blocks xs) ≡ fs
  unfolding files_on files_in
  files_laid e = sym (fill_by_all (file_in p (current_header p (blocks xs)) (blocks xs)) fs p.files [] e (λ f l. sym (file_laid f l)))

  sound_laid : Sound p (current_header p (blocks xs))
  unfolding Sound
  sound_laid f l = let n = lengths_first f l in let o = short f l in omega arith

pub laid_holds : (z : Sizes) (fs : List (List ℕ)) (xs : List ℕ) → InRange z → length fs ≡ z.files → Short z fs z.files → Laid z (plan_of z) fs z.files xs → Bytes xs → Holds z (blocks xs) fs
laid_holds z fs xs r e short laid bytes =
    let fit = fits z r in
    let one : 1 ≤ (plan_of z).head = omega arith in
    let s = laid.size in
    let n = length_blocks xs in
    let a = fit.small in
    let b = fit.few in
    record {
      taken = record {
        least = omega arith;
        most = omega arith;
        whole = blocks_whole xs;
        bytes = block_bytes xs bytes;
        name = named_first xs (omega arith) ∙ laid.name;
        sizes = sizes_first xs (omega arith) ∙ laid.sizes;
        range = r;
        large = omega arith;
        sound = sound_laid z (plan_of z) fs xs fit one laid short;
      };
      files = files_laid z (plan_of z) fs xs fit one laid short e;
    }

-- files that fit are not refused
pub fits_never : (z : Sizes) (fs : List (List ℕ)) (n : ℕ) (e : Misfit) → Fits z fs → n ≡ image_length z → Misfits z fs n e → ⊥
fits_never z fs n (Size i) f s m = let o = if_range z f.sizes in let z : ◌≡◌ {A = ℕ} 0 1 = cc in omega arith
fits_never z fs n Count f s m = m.1 f.count
fits_never z fs n (File g) f s m = let a = f.short g in let b = m.3 in omega arith
fits_never z fs n (Image k) f s m = m.3 (s ∙ sym m.2)

-- one file more, from what the code has put
pub laid_step : (z : Sizes) (p : Shape) (fs : List (List ℕ)) (i : ℕ) (xs ys bs : List ℕ) → Fit p → Laid z p fs i xs → i < p.files →
    ((f : ℕ) → f < p.files → length (get_or fs f []) ≤ p.size) → length ys ≡ length xs → bs ≡ get_or fs i [] → word_at ys (1024 + 4 * i) ≡ length bs →
    ((k : ℕ) → k < length bs → get_or ys (512 * (data_at p + i * p.each) + k) 0 ≡ get_or bs k 0) →
    ((k : ℕ) → (k < 1024 + 4 * i) ⊎ (1028 + 4 * i ≤ k) → (k < 512 * (data_at p + i * p.each)) ⊎ (512 * (data_at p + i * p.each) + length bs ≤ k) → get_or ys k 0 ≡ get_or xs k 0) →
    Laid z p fs (i + 1) ys
laid_step z p fs i xs ys bs fit laid within short size e =
    subst
    (λ (v : List ℕ). word_at ys (1024 + 4 * i) ≡ length v → ((k : ℕ) → k < length v → get_or ys (512 * (data_at p + i * p.each) + k) 0 ≡ get_or v k 0) →
    ((k : ℕ) → (k < 1024 + 4 * i) ⊎ (1028 + 4 * i ≤ k) → (k < 512 * (data_at p + i * p.each)) ⊎ (512 * (data_at p + i * p.each) + length v ≤ k) → get_or ys k 0 ≡ get_or xs k 0) →
    Laid z p fs (i + 1) ys)
    (sym e) (laid_more z p fs i xs ys fit laid within short size)

-- an image of zeros, with the name and the sizes put onto it
pub laid_bare : (z : Sizes) (p : Shape) (fs : List (List ℕ)) (xs ys : List ℕ) (n : ℕ) → n ≡ 512 * room p → xs ≡ replicate n 0 → length ys ≡ n → named ys ≡ true → sizes_in ys ≡ z →
    ((k : ℕ) → 44 ≤ k → get_or ys k 0 ≡ get_or xs k 0) → Laid z p fs 0 ys
laid_bare z p fs xs ys n size zeros same name sizes others =
    laid_none z p fs ys (same ∙ size) name sizes (λ k l u. others k l ∙ ap (λ (v : List ℕ). get_or v k 0) zeros ∙ get_or_all n k 0)

pub holds_by : (z : Sizes) (p : Shape) (fs : List (List ℕ)) (xs : List ℕ) → p ≡ plan_of z → InRange z → length fs ≡ z.files → Short z fs z.files → Laid z p fs p.files xs → Bytes xs →
    Holds z (blocks xs) fs
holds_by z p fs xs e r n short laid bytes = laid_holds z fs xs r n short (subst (λ (q : Shape). Laid z q fs q.files xs) e laid) bytes

pub planned : (z : Sizes) (p : Shape) (fs : List (List ℕ)) (n : ℕ) → p ≡ plan_of z → InRange z → n ≡ image_length z → length fs ≡ z.files → Short z fs z.files → Planned p fs n
planned z p fs n e r s c o = subst (λ (q : Shape). Planned q fs n) (sym e) (record { fit = fits z r; size = s; count = c; short = o })
