-- The files that a taken disc holds, as the code reads them. Assumes nothing.
use Rattle.std.proofs.Common.{◌≡◌, ℕ, zero, suc, Bool, true, false, min, ◌-◌, refl, ◌+◌, ◌*◌, ◌/◌, ◌%◌, ◌<◌, ◌≤◌, ◌&&◌, List, [], length, get_or, take, drop, sym, ap, ◌∙◌, subst, ⊎_elim, arith}
use Rattle.std.specs.List.{range_with_len, flat_map, list_all}
use Rattle.std.proofs.lemmas.List.{ext_get_or, length-take, length-drop, get_or-take, get_or-drop, get_or_past}
use Rattle.std.proofs.lemmas.Bool.{cases_eq, cases_lt, both_ways, and_parts, and_from, eqb-true, eq-eqb}
use Rattle.octets.specs.Rows.{Bytes}
use Rattle.octets.proofs.Over.{bytes_take, bytes_append}
use Rattle.std.proofs.lemmas.List.FromFn.{get_or-map-range_with_len, length-map-range_with_len, fill_by_all}
use Rattle.turns.specs.declared.vocabulary.Sizes.{Sizes}
use Rattle.disc.specs.Blocks.{Disc, at, blocks}
use Rattle.disc.specs.Layout.{Shape, Header, plan_of, place, room, current_header, length_in, copy_in, cell, file_in, files_in, files_on, Sound}
use Rattle.disc.specs.Check.{Taken, Holds}
use Rattle.disc.specs.Format.{HeldFits}
use Rattle.disc.specs.Same.{same_from}
use Rattle.disc.proofs.Cuts.{length_blocks}
use Rattle.disc.proofs.Places.{fits, file_length, file_byte}

pub large_bytes : (p : Shape) (xs : List ℕ) → room p ≤ length (blocks xs) → 512 * room p ≤ length xs
large_bytes p xs h = let l = length_blocks xs in omega arith

-- file f of all files
pub file_of_files : (p : Shape) (d : Disc) (f : ℕ) → f < p.files → get_or (files_on p d) f [] ≡ file_in p (current_header p d) d f
unfolding files_on files_in
file_of_files p d f l = get_or-map-range_with_len (file_in p (current_header p d) d) 0 p.files f f [] l (omega arith)

-- its length is what the header says
pub length_of_file : (z : Sizes) (xs : List ℕ) (f : ℕ) → Taken z (blocks xs) → f < z.files →
    (length (get_or (files_on (plan_of z) (blocks xs)) f []) ≡ length_in (current_header (plan_of z) (blocks xs)) f) × (length_in (current_header (plan_of z) (blocks xs)) f ≤ z.file)
unfolding Sound
length_of_file z xs f t l =
    let s : length_in (current_header (plan_of z) (blocks xs)) f ≤ z.file = t.sound f l in
    let d = (fits z t.range).deep in (
      ap length (file_of_files (plan_of z) (blocks xs) f l)
          ∙ file_length (plan_of z) (current_header (plan_of z) (blocks xs)) xs f l (large_bytes (plan_of z) xs t.large) (omega arith),
      s,
    )

-- a stretch, byte by byte
pub stretch : (file out : List ℕ) (n from : ℕ) → length out ≡ n → from + n ≤ length file → ((k : ℕ) → k < n → get_or out k 0 ≡ get_or file (from + k) 0) → out ≡ take n (drop from file)
stretch file out n from e l h =
    let m : length (take n (drop from file)) ≡ n = simp (length-take, length-drop) (omega arith) in
    ext_get_or 0 out (take n (drop from file)) (e ∙ sym m) (λ k u. h k (omega arith) ∙ sym (get_or-take n (drop from file) k 0 (omega arith) ∙ get_or-drop from file k 0))

pub large_of : (z : Sizes) (xs : List ℕ) (p : Shape) → p ≡ plan_of z → Taken z (blocks xs) → 512 * room p ≤ length xs
large_of z xs p e t = subst (λ (q : Shape). 512 * room q ≤ length xs) (sym e) (large_bytes (plan_of z) xs t.large)

-- what is known of file f once the plan and the header are at hand
pub record Opened (z : Sizes) (xs : List ℕ) (f : ℕ) (hs : List ℕ) (p : Shape) : Type 0 where
  pub file : f < p.files
  pub long : length_in (blocks hs) f ≡ length (get_or (files_on (plan_of z) (blocks xs)) f [])
  pub sound : length_in (blocks hs) f ≤ p.size
  pub small : length_in (blocks hs) f ≤ z.file
  pub same : file_in p (blocks hs) (blocks xs) f ≡ get_or (files_on (plan_of z) (blocks xs)) f []

pub opened : (z : Sizes) (xs : List ℕ) (f : ℕ) (hs : List ℕ) (p : Shape) → p ≡ plan_of z → Taken z (blocks xs) → f < z.files → blocks hs ≡ current_header p (blocks xs) → Opened z xs f hs p
opened z xs f hs p e t l =
    subst (λ (q : Shape). blocks hs ≡ current_header q (blocks xs) → Opened z xs f hs q) (sym e)
    (λ h.
    let n = length_of_file z xs f t l in
    let a : length_in (blocks hs) f ≡ length_in (current_header (plan_of z) (blocks xs)) f = ap (λ (x : Header). length_in x f) h in
    let s = n.1 in
    record {
      file = l;
      long = a ∙ sym n.0;
      sound = omega arith;
      small = omega arith;
      same = ap (λ (x : Header). file_in (plan_of z) x (blocks xs) f) h ∙ sym (file_of_files (plan_of z) (blocks xs) f l);
    })

-- a file that is as long as some bytes, and has the same in each of its blocks
pub same_file : (file bytes : List ℕ) (n : ℕ) → length file ≡ length bytes → length bytes ≤ n → ((k : ℕ) → k < n → k < length bytes → get_or file k 0 ≡ get_or bytes k 0) → file ≡ bytes
same_file file bytes n e l h = ext_get_or 0 file bytes e (λ k u. h k (omega arith) (omega arith))

-- what is asked of a row of places, place by place
all_at : (test : ℕ → Bool) (a n : ℕ) → list_all test (range_with_len a n) ≡ true → (k : ℕ) → a ≤ k → k < a + n → test k ≡ true
all_at test a zero e k l u = absurd (omega arith)
all_at test a (suc n) e k l u =
    let p = and_parts (test a) _ e in
    ⊎_elim (λ (q : k ≡ a). rw q p.0) (λ q. all_at test (a + 1) n p.1 k (omega arith) (omega arith)) (cases_eq k a)

all_same : (bytes : List ℕ) (b a n : ℕ) → list_all (same_from bytes b bytes b) (range_with_len a n) ≡ true
all_same bytes b a zero = refl
all_same bytes b a (suc n) = and_from (same_from bytes b bytes b a) _ (eq-eqb (get_or bytes (b + a) 0) (get_or bytes (b + a) 0) refl) (all_same bytes b (a + 1) n)

-- two ways to ask the same, place by place
all_as : (p q : ℕ → Bool) (a n : ℕ) → ((k : ℕ) → a ≤ k → k < a + n → p k ≡ q k) → list_all p (range_with_len a n) ≡ list_all q (range_with_len a n)
all_as p q a zero h = refl
all_as p q a (suc n) h = rw (h a (omega arith) (omega arith)) (ap (λ x. q a && x) (all_as p q (a + 1) n (λ k l u. h k (omega arith) (omega arith))))

-- what is asked of a block of the disc is asked of the file
pub block_as : (p : Shape) (h : Header) (xs bytes : List ℕ) (f b block n : ℕ) → f < p.files → 512 * room p ≤ length xs → b < p.each → length_in h f ≡ length bytes → n ≤ 512 → n ≤ length bytes - 512 * b →
    block ≡ place p (copy_in h (f * p.each + b)) (f * p.each + b) →
    list_all (same_from xs (512 * block) bytes (512 * b)) (range_with_len 0 n) ≡ list_all (same_from (file_in p h (blocks xs) f) (512 * b) bytes (512 * b)) (range_with_len 0 n)
block_as p h xs bytes f b block n l large w e small left q = all_as _ _ 0 n
    (λ k _ u.
    let i : (512 * b + k) / 512 ≡ b = omega arith in
    let r : (512 * b + k) % 512 ≡ k = omega arith in
    let t = file_byte p h xs f l large (512 * b + k) block (omega arith) (omega arith) (rw i q) in
    rw (← t, r) refl)

-- block b of a file as the code compares it: up to the end of the block or of the bytes
module _ (file bytes : List ℕ) (b : ℕ) where
  pub block_more : list_all (same_from file (512 * b) bytes (512 * b)) (range_with_len 0 (min (length bytes - 512 * b) 512)) ≡ true →
      ((k : ℕ) → k < 512 * b → k < length bytes → get_or file k 0 ≡ get_or bytes k 0) → (k : ℕ) → k < 512 * (b + 1) → k < length bytes → get_or file k 0 ≡ get_or bytes k 0
  block_more e h k l u =
      ⊎_elim (λ (q : k < 512 * b). h k q u)
      (λ (q : 512 * b ≤ k).
      let i : 512 * b + (k - 512 * b) ≡ k = omega arith in
      let t : same_from file (512 * b) bytes (512 * b) (k - 512 * b) ≡ true = all_at (same_from file (512 * b) bytes (512 * b)) 0 (min (length bytes - 512 * b) 512) e (k - 512 * b) (omega arith) (omega arith) in
      eqb-true (get_or file k 0) (get_or bytes k 0) (rw i at t)) (cases_lt k (512 * b))

  pub block_differs : list_all (same_from file (512 * b) bytes (512 * b)) (range_with_len 0 (min (length bytes - 512 * b) 512)) ≡ false → file ≡ bytes → ⊥
  block_differs e q = both_ways _ e (subst (λ (x : List ℕ). list_all (same_from x (512 * b) bytes (512 * b)) (range_with_len 0 (min (length bytes - 512 * b) 512)) ≡ true) (sym q) (all_same bytes (512 * b) 0 _))

-- all files of a disc
pub holds_if : (z : Sizes) (xs : List ℕ) (p : Shape) (hs : List ℕ) (fs : List (List ℕ)) → p ≡ plan_of z → Taken z (blocks xs) → blocks hs ≡ current_header p (blocks xs) → length fs ≡ z.files →
    ((f : ℕ) → f < p.files → file_in p (blocks hs) (blocks xs) f ≡ get_or fs f []) → Holds z (blocks xs) fs
unfolding files_on files_in
holds_if z xs p hs fs e t =
    subst
    (λ (q : Shape). blocks hs ≡ current_header q (blocks xs) → length fs ≡ z.files → ((f : ℕ) → f < q.files → file_in q (blocks hs) (blocks xs) f ≡ get_or fs f []) → Holds z (blocks xs) fs) (sym e)
    (λ h n s.
    record {
      taken = t;
      files = sym
          (fill_by_all (file_in (plan_of z) (current_header (plan_of z) (blocks xs)) (blocks xs)) fs z.files [] n
          (λ f l. sym (s f l) ∙ ap (λ (x : Header). file_in (plan_of z) x (blocks xs) f) h));
    })

pub if_holds : (z : Sizes) (xs : List ℕ) (p : Shape) (hs : List ℕ) (fs : List (List ℕ)) → p ≡ plan_of z → Holds z (blocks xs) fs → blocks hs ≡ current_header p (blocks xs) → (f : ℕ) → f < p.files →
    file_in p (blocks hs) (blocks xs) f ≡ get_or fs f []
if_holds z xs p hs fs e k h f l =
    ap (λ (x : Header). file_in p x (blocks xs) f) h ∙ sym (file_of_files p (blocks xs) f l) ∙ ap (λ (q : Shape). get_or (files_on q (blocks xs)) f []) e ∙ ap (λ (v : List (List ℕ)). get_or v f []) k.files

pub count_if : (z : Sizes) (d : Disc) (fs : List (List ℕ)) → Holds z d fs → length fs ≡ z.files
unfolding files_on files_in
count_if z d fs k = ap length (sym k.files) ∙ length-map-range_with_len (file_in (plan_of z) (current_header (plan_of z) d) d) 0 z.files

-- a stretch of one list is that of an equal one
pub stretch_as : (out file held : List ℕ) (n from : ℕ) → out ≡ take n (drop from file) → file ≡ held → out ≡ take n (drop from held)
stretch_as out file held n from e h = e ∙ ap (λ (x : List ℕ). take n (drop from x)) h

-- bytes of blocks, one after the other
joined_bytes : (g : ℕ → List ℕ) (a n : ℕ) → ((i : ℕ) → Bytes (g i)) → Bytes (flat_map g (range_with_len a n))
joined_bytes g a zero h k = omega arith
joined_bytes g a (suc n) h k = bytes_append (g a) (flat_map g (range_with_len (a + 1) n)) (h a) (joined_bytes g (a + 1) n h) k

file_bytes : (p : Shape) (h : Header) (d : Disc) (f : ℕ) → ((i : ℕ) → Bytes (at d i)) → Bytes (file_in p h d f)
unfolding file_in cell
file_bytes p h d f b = bytes_take (length_in h f) _ (joined_bytes _ 0 p.each (λ i. b (place p (copy_in h (f * p.each + i)) (f * p.each + i))))

file_short : (p : Shape) (h : Header) (d : Disc) (f : ℕ) → length (file_in p h d f) ≤ length_in h f
unfolding file_in
file_short p h d f = simp length-take (omega arith)

-- what a disc holds fits
pub held_fits : HeldFits
unfolding Sound
held_fits z d fs k =
    record {
      sizes = k.taken.range;
      count = count_if z d fs k;
      short = λ f. ⊎_elim
          (λ (l : f < z.files).
          let s : length_in (current_header (plan_of z) d) f ≤ z.file = k.taken.sound f l in
          let o = file_short (plan_of z) (current_header (plan_of z) d) d f in
          rw (this f l) (omega arith))
          (λ (l : z.files ≤ f). rw (past f l) (omega arith)) (cases_lt f z.files);
      bytes = λ f. ⊎_elim (λ (l : f < z.files). rw (this f l) (file_bytes (plan_of z) (current_header (plan_of z) d) d f k.taken.bytes))
          (λ (l : z.files ≤ f). rw (past f l) (λ i. omega arith)) (cases_lt f z.files);
    }
  where
    this : (f : ℕ) → f < z.files → get_or fs f [] ≡ file_in (plan_of z) (current_header (plan_of z) d) d f
    this f l = ap (λ (v : List (List ℕ)). get_or v f []) (sym k.files) ∙ file_of_files (plan_of z) d f l

    past : (f : ℕ) → z.files ≤ f → get_or fs f [] ≡ []
    past f l = let n = count_if z d fs k in get_or_past fs f [] (omega arith)
