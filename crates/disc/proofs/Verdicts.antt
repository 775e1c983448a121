-- What the refusals are, and that a disc is taken if and only if there is none. Assumes nothing.
use Rattle.std.proofs.Common.{◌≡◌, ℕ, zero, suc, ◌+◌, ◌-◌, ◌*◌, ◌/◌, ◌%◌, ◌<◌, ◌≤◌, Bool, true, false, ◌&&◌, eqb, ltb, leb, List, [], ◌∷◌, length, get_or, drop, Some, None, Option, sym, refl, ap, ◌∙◌, ⊎_elim, arith}
use Rattle.std.specs.Prelude.{find, not, IfNone}
use Rattle.std.proofs.lemmas.List.{get_or_past}
use Rattle.std.proofs.lemmas.List.FromFn.{get_or-map-range_with_len}
use Rattle.std.proofs.lemmas.Bool.{cond-true, cond-false, both_ways, cases_Bool, cases_eq, cases_lt, and_parts, and_from, or_parts, or_from, or_left, or_right, and_left, leb-true, leb-false, le-leb, lt-leb, ltb-false, lt-ltb, le-ltb, eqb-true, eq-eqb, ne_eqb}
use Rattle.octets.specs.Rows.{lowest, Bytes}
use Rattle.octets.specs.Words.{word_at}
use Rattle.octets.proofs.Over.{bytes_take, bytes_drop}
use Rattle.octets.proofs.Chains.{any_range}
use Rattle.octets.proofs.Lowest.{lowest_le, lowest_holds, lowest_below, some_none}
use Rattle.turns.specs.Ranges.{InRange}
use Rattle.turns.specs.Names.{all_names, name_at}
use Rattle.turns.specs.declared.sizes.SizeName.{SizeName}
use Rattle.turns.specs.declared.sizes.SizeName.TheVariants.{Processes, Opens, Pipes, Handles, Memory, Pipe, File, Files, Screens, Turn}
use Rattle.turns.specs.declared.vocabulary.Sizes.{Sizes}
use Rattle.disc.specs.Blocks.{Disc, at, blocks}
use Rattle.disc.specs.Layout.{Shape, plan_of, head_at, room, current, header, current_header, length_in, Sound}
use Rattle.disc.specs.Check.{named, sizes_in, between, in_range, first_out, too_long, wrong, first_wrong, frames_for, length_refusal, name_refusal, size_refusal, block_refusal, frame_refusal, first_of, disc_sizes, disc_refusal, refusal_of, TakenBytes}
use Rattle.disc.specs.declared.check.Refusal.{Refusal}
use Rattle.disc.specs.declared.check.Refusal.TheVariants.{Length, Name, Block}
use Rattle.disc.proofs.Cuts.{length_blocks, get_or_blocks, blocks_whole}
use Rattle.disc.proofs.Places.{first_byte, first_word, below_two, current_two}

-- block 0, from the bytes of the disc
pub named_first : (xs : List ℕ) → 512 ≤ length xs → named (at (blocks xs) 0) ≡ named xs
named_first xs l = rw (first_byte xs 0 (omega arith) l, first_byte xs 1 (omega arith) l, first_byte xs 2 (omega arith) l, first_byte xs 3 (omega arith) l)

pub sizes_first : (xs : List ℕ) → 512 ≤ length xs → sizes_in (at (blocks xs) 0) ≡ sizes_in xs
unfolding sizes_in
sizes_first xs l =
    rw (
      first_word xs 4 (omega arith) l,
      first_word xs 8 (omega arith) l,
      first_word xs 12 (omega arith) l,
      first_word xs 16 (omega arith) l,
      first_word xs 20 (omega arith) l,
      first_word xs 24 (omega arith) l,
      first_word xs 28 (omega arith) l,
      first_word xs 32 (omega arith) l,
      first_word xs 36 (omega arith) l,
      first_word xs 40 (omega arith) l,
    )

-- where nothing is found, the test fails everywhere
find_none : {X : Type 0} (test : X → Bool) (xs : List X) → find test xs ≡ None → (k : ℕ) (d : X) → k < length xs → test (get_or xs k d) ≡ false
find_none {X = X} test [] e k d l = absurd (omega arith)
find_none {X = X} test (x ∷ xs) e k d l =
    ⊎_elim (λ t. let z : ◌≡◌ {A = ℕ} 0 1 = cc (cond-true (test x) (Some x) (find test xs) t) in absurd (omega arith))
    (λ t. later (find_none test xs (sym (cond-false (test x) (Some x) (find test xs) t) ∙ e)) k l t) (cases_Bool (test x))
  where
    later : ((k : ℕ) (d : X) → k < length xs → test (get_or xs k d) ≡ false) → (k : ℕ) → k < length (x ∷ xs) → test x ≡ false → test (get_or (x ∷ xs) k d) ≡ false
    later h zero l t = t
    later h (suc k) l t = h k d (omega arith)

not_false : (b : Bool) → not b ≡ false → b ≡ true
not_false true e = refl
not_false false e = sym e

-- sizes in range
low_high : (a x b : ℕ) → between a x b ≡ true → (a ≤ x) × (x ≤ b)
low_high a x b e = let p = and_parts (leb a x) (leb x b) e in (leb-true a x p.0, leb-true x b p.1)

in_between : (a x b : ℕ) → a ≤ x → x ≤ b → between a x b ≡ true
in_between a x b h l = and_from (leb a x) (leb x b) (le-leb a x h) (le-leb x b l)

pub range_if : (z : Sizes) → first_out z ≡ None → InRange z
unfolding first_out in_range
range_if z e =
    let m = and_parts (between 4096 z.memory 1048576) (eqb (z.memory % 4096) 0) (right Memory 4 (omega arith) refl) in
    let b = low_high 4096 z.memory 1048576 m.0 in
    record {
      processes = low_high 1 z.processes 64 (right Processes 0 (omega arith) refl);
      opens = low_high 1 z.opens 256 (right Opens 1 (omega arith) refl);
      pipes = (low_high 0 z.pipes 64 (right Pipes 2 (omega arith) refl)).1;
      handles = low_high 3 z.handles 16 (right Handles 3 (omega arith) refl);
      memory = (b.0, b.1, eqb-true (z.memory % 4096) 0 m.1);
      pipe = low_high 1 z.pipe 4096 (right Pipe 5 (omega arith) refl);
      file = (low_high 0 z.file 262144 (right File 6 (omega arith) refl)).1;
      files = low_high 1 z.files 64 (right Files 7 (omega arith) refl);
      screens = low_high 1 z.screens 16 (right Screens 8 (omega arith) refl);
      turn = low_high 1 z.turn 65535 (right Turn 9 (omega arith) refl);
    }
  where
    right : (name : SizeName) (k : ℕ) → k < 10 → name_at k ≡ name → in_range name z ≡ true
    right name k l i = rw i at (not_false (in_range (name_at k) z) (find_none (λ n. not (in_range n z)) all_names e k Turn l))

pub range_if_none : (z : Sizes) (o : Option SizeName) → o ≡ first_out z → IfNone o (InRange z)
range_if_none z None e = range_if z (sym e)
range_if_none z (Some name) e = tt

pub if_range : (z : Sizes) → InRange z → first_out z ≡ None
unfolding first_out in_range
if_range z r =
    rw (
      in_between 1 z.processes 64 r.processes.0 r.processes.1,
      in_between 1 z.opens 256 r.opens.0 r.opens.1,
      in_between 0 z.pipes 64 (omega arith) r.pipes,
      in_between 3 z.handles 16 r.handles.0 r.handles.1,
      and_from (between 4096 z.memory 1048576) (eqb (z.memory % 4096) 0) (in_between 4096 z.memory 1048576 r.memory.0 r.memory.1) (eq-eqb (z.memory % 4096) 0 r.memory.2),
      in_between 1 z.pipe 4096 r.pipe.0 r.pipe.1,
      in_between 0 z.file 262144 (omega arith) r.file,
      in_between 1 z.files 64 r.files.0 r.files.1,
      in_between 1 z.screens 16 r.screens.0 r.screens.1,
      in_between 1 z.turn 65535 r.turn.0 r.turn.1,
    )

-- the lowest place, by what holds there and below
pub lowest_is : (test : ℕ → Bool) (n k : ℕ) → k < n → test k ≡ true → ((i : ℕ) → i < k → test i ≡ false) → lowest test n ≡ k
lowest_is test n k l e h =
    ⊎_elim (λ (u : lowest test n < k). absurd (both_ways (test (lowest test n)) (h (lowest test n) u) (lowest_holds test n (omega arith))))
    (λ (u : k ≤ lowest test n). ⊎_elim (λ (q : lowest test n ≡ k). q) (λ ne. absurd (both_ways (test k) (lowest_below test n k (omega arith)) e)) (cases_eq (lowest test n) k))
    (cases_lt (lowest test n) k)

pub lowest_all : (test : ℕ → Bool) (n : ℕ) → ((i : ℕ) → i < n → test i ≡ false) → lowest test n ≡ n
lowest_all test n h =
    ⊎_elim (λ (u : lowest test n < n). absurd (both_ways (test (lowest test n)) (h (lowest test n) u) (lowest_holds test n u))) (λ (u : n ≤ lowest test n). let l = lowest_le test n in omega arith)
    (cases_lt (lowest test n) n)

-- lengths
too_long_none : (p : Shape) (b : List ℕ) → ((f : ℕ) → f < p.files → word_at b (4 * f) ≤ p.size) → too_long p b ≡ false
unfolding too_long
too_long_none p b h =
    let e = lowest_all (λ f. ltb p.size (word_at b (4 * f))) p.files (λ f l. le-ltb p.size (word_at b (4 * f)) (h f l)) in
    any_range (λ f. ltb p.size (word_at b (4 * f))) p.files ∙ le-ltb _ _ (omega arith)

not_too_long : (p : Shape) (b : List ℕ) → too_long p b ≡ false → (f : ℕ) → f < p.files → word_at b (4 * f) ≤ p.size
unfolding too_long
not_too_long p b e f l =
    let test = λ (f : ℕ). ltb p.size (word_at b (4 * f)) in ltb-false p.size (word_at b (4 * f)) (some_none test p.files f l (sym (any_range test p.files) ∙ e))

-- the lowest block that is wrong
module _ (p : Shape) (d : Disc) (k : ℕ) (one : 1 ≤ p.head) (head : k ≡ head_at p (current d)) where
  head_low : k + p.head ≤ room p
  head_low = rw head (below_two (λ c. head_at p c + p.head ≤ room p) (omega arith) (omega arith) (current d) (current_two d))

  other_right : (i : ℕ) → i < length d → (i ≡ k → ⊥) → wrong p d i ≡ false
  unfolding wrong
  other_right i l ne =
      or_from (leb (length d) i) (eqb i (head_at p (current d)) && too_long p (at d i)) (lt-leb (length d) i l)
      (and_left (eqb i (head_at p (current d))) (too_long p (at d i)) (ne_eqb i (head_at p (current d)) (λ e. ne (e ∙ sym head))))

  pub wrong_lengths : k < length d → too_long p (at d k) ≡ true → first_wrong p d ≡ k
  unfolding first_wrong wrong
  wrong_lengths l e =
      let h = head_low in
      lowest_is (wrong p d) (room p) k (omega arith)
      (or_right (leb (length d) k) (eqb k (head_at p (current d)) && too_long p (at d k)) (and_from (eqb k (head_at p (current d))) (too_long p (at d k)) (eq-eqb k (head_at p (current d)) head) e))
      (λ i u. other_right i (omega arith) (λ q. omega arith))

  right : (k < length d → too_long p (at d k) ≡ false) → (i : ℕ) → i < length d → wrong p d i ≡ false
  unfolding wrong
  right h i l =
      ⊎_elim
      (λ (q : i ≡ k). rw q (or_from (leb (length d) k) (eqb k (head_at p (current d)) && too_long p (at d k)) (lt-leb (length d) k (omega arith)) (rw (h (omega arith)) (none (eqb k (head_at p (current d)))))))
      (λ ne. other_right i l ne) (cases_eq i k)
    where
      none : (b : Bool) → (b && false) ≡ false
      none true = refl
      none false = refl

  pub wrong_missing : (k < length d → too_long p (at d k) ≡ false) → length d < room p → first_wrong p d ≡ length d
  unfolding first_wrong wrong
  wrong_missing h l =
      lowest_is (wrong p d) (room p) (length d) l (or_left (leb (length d) (length d)) (eqb (length d) (head_at p (current d)) && too_long p (at d (length d))) (le-leb (length d) (length d) (omega arith)))
      (λ i u. right h i u)

  pub wrong_nowhere : (k < length d → too_long p (at d k) ≡ false) → room p ≤ length d → first_wrong p d ≡ room p
  unfolding first_wrong
  wrong_nowhere h l = lowest_all (wrong p d) (room p) (λ i u. right h i (omega arith))

  -- the lengths of the header that counts stand in its first block
  lengths_at : (f : ℕ) → length_in (current_header p d) f ≡ word_at (at d k) (4 * f)
  unfolding length_in current_header header
  lengths_at f =
      let z : head_at p (current d) + 0 ≡ k = omega arith in
      ap (λ (b : List ℕ). word_at b (4 * f)) (get_or-map-range_with_len (λ i. at d (head_at p (current d) + i)) 0 p.head 0 0 [] (omega arith) refl ∙ ap (at d) z)

  all_right : room p ≤ first_wrong p d → (i : ℕ) → i < room p → wrong p d i ≡ false
  unfolding first_wrong
  all_right h i u = lowest_below (wrong p d) (room p) i (omega arith)

  pub large_if : room p ≤ first_wrong p d → room p ≤ length d
  unfolding wrong
  large_if h =
      let low = head_low in
      let e = (or_parts (leb (length d) (room p - 1)) (eqb (room p - 1) (head_at p (current d)) && too_long p (at d (room p - 1))) (all_right h (room p - 1) (omega arith))).0 in
      let l = leb-false (length d) (room p - 1) e in
      omega arith

  pub sound_if : room p ≤ first_wrong p d → Sound p (current_header p d)
  unfolding wrong Sound
  sound_if h f l =
      let low = head_low in
      let e = (or_parts (leb (length d) k) (eqb k (head_at p (current d)) && too_long p (at d k)) (all_right h k (omega arith))).1 in
      let t : too_long p (at d k) ≡ false = rw (eq-eqb k (head_at p (current d)) head) at e in
      rw (lengths_at f) (not_too_long p (at d k) t f l)

  pub right_if : room p ≤ length d → Sound p (current_header p d) → first_wrong p d ≡ room p
  unfolding Sound
  right_if l s = wrong_nowhere (λ _. too_long_none p (at d k) (λ f u. rw (lengths_at f) at (s f u))) l

  -- the refusal, by what the code finds
  pub lengths_refused : k < length d → too_long p (at d k) ≡ true → block_refusal (room p) (first_wrong p d) ≡ Some (Block (512 * k))
  lengths_refused l e = let h = head_low in rw (wrong_lengths l e) (cond-true (ltb k (room p)) (Some (Block (512 * k))) None (lt-ltb k (room p) (omega arith)))

  pub missing_refused : (n : ℕ) → length d ≡ n → (k < length d → too_long p (at d k) ≡ false) → n < room p → block_refusal (room p) (first_wrong p d) ≡ Some (Block (512 * n))
  missing_refused n e h l = rw (wrong_missing h (omega arith), e) (cond-true (ltb n (room p)) (Some (Block (512 * n))) None (lt-ltb n (room p) l))

  pub blocks_passed : (k < length d → too_long p (at d k) ≡ false) → room p ≤ length d → block_refusal (room p) (first_wrong p d) ≡ None
  blocks_passed h l = rw (wrong_nowhere h l) (cond-false (ltb (room p) (room p)) (Some (Block (512 * room p))) None (le-ltb (room p) (room p) (omega arith)))

-- bytes of a disc are bytes of its blocks
pub block_bytes : (xs : List ℕ) → Bytes xs → (i : ℕ) → Bytes (at (blocks xs) i)
block_bytes xs h i =
    ⊎_elim (λ (l : i < length xs / 512). rw (get_or_blocks xs i [] l) (bytes_take 512 (drop (512 * i) xs) (bytes_drop (512 * i) xs h)))
    (λ (l : length xs / 512 ≤ i). let n = length_blocks xs in rw (get_or_past (blocks xs) i [] (omega arith)) (λ k. omega arith))
    (cases_lt i (length xs / 512))

-- what the single refusals say
length_passed : (n : ℕ) → n % 512 ≡ 0 → 1024 ≤ n → n ≤ 67108864 → length_refusal n ≡ None
length_passed n e l m =
    cond-true (eqb (n % 512) 0 && between 1024 n 67108864) None (Some (Length n)) (and_from (eqb (n % 512) 0) (between 1024 n 67108864) (eq-eqb (n % 512) 0 e) (in_between 1024 n 67108864 l m))

name_passed : (b : List ℕ) → name_refusal b ≡ None → named b ≡ true
name_passed b e = ⊎_elim (λ t. t) (λ f. absurd (let z : ◌≡◌ {A = ℕ} 0 1 = cc (cond-false (named b) None (Some Name) f) in omega arith)) (cases_Bool (named b))

block_passed : (n b : ℕ) → block_refusal n b ≡ None → n ≤ b
block_passed n b e =
    ⊎_elim (λ (l : b < n). absurd (let z : ◌≡◌ {A = ℕ} 0 1 = cc (cond-true (ltb b n) (Some (Block (512 * b))) None (lt-ltb b n l)) in omega arith)) (λ (l : n ≤ b). l) (cases_lt b n)

-- the first of the refusals
module _ (xs : List ℕ) (e : Refusal) where
  pub refused_1 : length_refusal (length xs) ≡ Some e → disc_refusal xs ≡ Some e
  unfolding disc_refusal first_of
  refused_1 a = rw a

  pub refused_2 : length_refusal (length xs) ≡ None → name_refusal (at (blocks xs) 0) ≡ Some e → disc_refusal xs ≡ Some e
  unfolding disc_refusal first_of
  refused_2 a b = rw (a, b)

  pub refused_3 : length_refusal (length xs) ≡ None → name_refusal (at (blocks xs) 0) ≡ None → size_refusal (first_out (disc_sizes xs)) ≡ Some e → disc_refusal xs ≡ Some e
  unfolding disc_refusal first_of
  refused_3 a b c = rw (a, b, c)

  pub refused_4 : length_refusal (length xs) ≡ None → name_refusal (at (blocks xs) 0) ≡ None → size_refusal (first_out (disc_sizes xs)) ≡ None →
      block_refusal (room (plan_of (disc_sizes xs))) (first_wrong (plan_of (disc_sizes xs)) (blocks xs)) ≡ Some e → disc_refusal xs ≡ Some e
  unfolding disc_refusal first_of
  refused_4 a b c d = rw (a, b, c, d)

pub passed_4 : (xs : List ℕ) → length_refusal (length xs) ≡ None → name_refusal (at (blocks xs) 0) ≡ None → size_refusal (first_out (disc_sizes xs)) ≡ None →
    block_refusal (room (plan_of (disc_sizes xs))) (first_wrong (plan_of (disc_sizes xs)) (blocks xs)) ≡ None → disc_refusal xs ≡ None
unfolding disc_refusal first_of
passed_4 xs a b c d = rw (a, b, c, d)

-- NOT REFUSED IF AND ONLY IF TAKEN
pub taken_if : (xs : List ℕ) → Bytes xs → 1024 ≤ length xs → length xs ≤ 67108864 → length xs % 512 ≡ 0 → name_refusal (at (blocks xs) 0) ≡ None → InRange (disc_sizes xs) →
    block_refusal (room (plan_of (disc_sizes xs))) (first_wrong (plan_of (disc_sizes xs)) (blocks xs)) ≡ None → TakenBytes (disc_sizes xs) xs
taken_if xs h least most whole b r d =
    let n = length_blocks xs in
    let w = block_passed (room (plan_of (disc_sizes xs))) (first_wrong (plan_of (disc_sizes xs)) (blocks xs)) d in
    let one : 1 ≤ (plan_of (disc_sizes xs)).head = omega arith in (
      record {
        least = omega arith;
        most = omega arith;
        whole = blocks_whole xs;
        bytes = block_bytes xs h;
        name = name_passed (at (blocks xs) 0) b;
        sizes = refl;
        range = r;
        large = large_if (plan_of (disc_sizes xs)) (blocks xs) (head_at (plan_of (disc_sizes xs)) (current (blocks xs))) one refl w;
        sound = sound_if (plan_of (disc_sizes xs)) (blocks xs) (head_at (plan_of (disc_sizes xs)) (current (blocks xs))) one refl w;
      },
      whole,
    )

pub none_if : (xs : List ℕ) (z : Sizes) → TakenBytes z xs → (disc_refusal xs ≡ None) × (disc_sizes xs ≡ z)
none_if xs z t =
    let n = length_blocks xs in
    let k = t.0 in
    let least = k.least in
    let most = k.most in
    let whole = t.1 in
    let one : 1 ≤ (plan_of z).head = omega arith in
    let w = right_if (plan_of z) (blocks xs) (head_at (plan_of z) (current (blocks xs))) one refl k.large k.sound in (
      passed_4 xs (length_passed (length xs) t.1 (omega arith) (omega arith)) (cond-true (named (at (blocks xs) 0)) None (Some Name) k.name)
          (rw (k.sizes, if_range z k.range))
          (rw k.sizes (rw w (cond-false (ltb (room (plan_of z)) (room (plan_of z))) (Some (Block (512 * room (plan_of z)))) None (le-ltb (room (plan_of z)) (room (plan_of z)) (omega arith))))),
      k.sizes,
    )

pub never_refused : (xs : List ℕ) (e : Refusal) (z : Sizes) → disc_refusal xs ≡ Some e → TakenBytes z xs → ⊥
never_refused xs e z r t = let n = (none_if xs z t).0 in let o : ◌≡◌ {A = ℕ} 0 1 = cc in omega arith

-- frames
pub refused_first : (xs : List ℕ) (lent : ℕ) (e : Refusal) → disc_refusal xs ≡ Some e → refusal_of xs lent ≡ Some e
unfolding refusal_of first_of
refused_first xs lent e a = rw a

pub refused_frames : (xs : List ℕ) (lent : ℕ) (z : Sizes) (e : Refusal) → disc_refusal xs ≡ None → disc_sizes xs ≡ z → frame_refusal (frames_for z) lent ≡ Some e → refusal_of xs lent ≡ Some e
unfolding refusal_of first_of
refused_frames xs lent z e a b c = rw (a, b, c)

pub passed_frames : (xs : List ℕ) (lent : ℕ) (z : Sizes) → disc_refusal xs ≡ None → disc_sizes xs ≡ z → frame_refusal (frames_for z) lent ≡ None → refusal_of xs lent ≡ None
unfolding refusal_of first_of
passed_frames xs lent z a b c = rw (a, b, c)
