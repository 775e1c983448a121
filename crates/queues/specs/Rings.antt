-- A queue of bytes as a ring in a row of 4,096 bytes: behind the row's last byte comes its first. Assumes nothing: these are definitions.
use Rattle.std.specs.Prelude.{◌≡◌, ℕ, ◌+◌, ◌*◌, ◌%◌, ◌<◌, ◌≤◌, List, [], length, map, drop, ◌≢◌, slice_index}
use Rattle.std.specs.List.{range_with_len}
use Rattle.queues.specs.declared.Queue.{Queue}

-- the byte at place k of a row that goes round
abbrev pub round : List ℕ → ℕ → ℕ
round row k = slice_index row (k % 4096)

-- bs stands in the row from place a on, round its end; what stood there behind those places stands there still
pub record Written (xs ys : List ℕ) (a : ℕ) (bs : List ℕ) : Type 0 where
  pub here : (k : ℕ) → k < length bs → round ys (a + k) ≡ slice_index bs k
  pub kept : (k : ℕ) → length bs ≤ k → k < 4096 → round ys (a + k) ≡ round xs (a + k)

-- byte k of the queue in row t
abbrev pub waiting : Queue → List ℕ → ℕ → ℕ → ℕ
waiting q xs t k = slice_index xs (t * 4096 + (q.start + k) % 4096)

-- the bytes that wait in row t, first come first: all that a caller sees
unfoldable pub queued : Queue → List ℕ → ℕ → List ℕ
queued q xs t = map (waiting q xs t) (range_with_len 0 q.length)

-- the queues in all rows but t are as they were
abbrev pub OthersKept : ℕ → List ℕ → List ℕ → Type 0
OthersKept t xs ys = (u : ℕ) (q : Queue) → (u ≢ t) → queued q ys u ≡ queued q xs u

-- no byte waits
abbrev pub Empty : Queue → Type 0
Empty q = (xs : List ℕ) (t : ℕ) → queued q xs t ≡ []

-- the first n bytes are gone
abbrev pub Shorter : ℕ → Queue → Queue → Type 0
Shorter n q r = (xs : List ℕ) (t : ℕ) → queued r xs t ≡ drop n (queued q xs t)
