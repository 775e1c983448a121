-- Writes to a disc go out one after the other, as long as there is power. Assumes nothing: these are definitions and statements.
use Rattle.std.specs.Prelude.{◌≡◌, ℕ, ◌+◌, ◌-◌, if◌then◌else◌, ◌≢◌, ◌⊎◌, List, [], ◌∷◌, map, ◌==◌, slice_set}
use Rattle.std.specs.List.{range_with_len}
use Rattle.turns.specs.Promise.{written, torn}
use Rattle.disc.specs.Blocks.{Disc, at}
use Rattle.disc.specs.declared.blocks.Power.{Power}
use Rattle.disc.specs.declared.blocks.Power.TheVariants.{Lasting, Left, Gone}

-- a block's number, and what is written into it
abbrev pub Write : Type 0
Write = ℕ × List ℕ

-- one write under a power; where the power ends the block holds anything
abbrev pub put_on : Power → Disc → ℕ → List ℕ → List ℕ → Disc
put_on Lasting d b x anything = slice_set d b x
put_on (Left n) d b x anything = slice_set d b (if n == 0 then anything else x)
put_on Gone d b x anything = d

-- the power after one write
abbrev pub spent : Power → Power
spent Lasting = Lasting
spent (Left n) = if n == 0 then Gone else Left (n - 1)
spent Gone = Gone

-- a row of writes, and the power after it
unfoldable pub puts : Power → Disc → List Write → List ℕ → Disc
puts p d [] anything = d
puts p d (w ∷ ws) anything = puts (spent p) (put_on p d w.0 w.1 anything) ws anything

unfoldable pub spent_by : Power → List Write → Power
spent_by p [] = p
spent_by p (w ∷ ws) = spent_by (spent p) ws

-- n writes, into the blocks from b on
unfoldable pub row_writes : ℕ → (ℕ → List ℕ) → ℕ → List Write
row_writes b x n = map (λ i. (b + i, x i)) (range_with_len 0 n)

-- none of the writes goes into block k
abbrev pub Away : ℕ → List Write → Type 0
Away k [] = Unit {0}
Away k (w ∷ ws) = (k ≢ w.0) × Away k ws

-- THE LAWS. Lasting power lets every write out
abbrev pub LastingWrites : Type 0
LastingWrites = (d : Disc) (ws : List Write) (anything : List ℕ) → puts Lasting d ws anything ≡ written d ws

-- power for m more writes is a cut that tears the write behind them
abbrev pub LeftTears : Type 0
LeftTears = (m : ℕ) (d : Disc) (ws : List Write) (anything : List ℕ) → puts (Left m) d ws anything ≡ torn d ws m anything

-- under any power the other blocks are as they were
abbrev pub OthersStay : Type 0
OthersStay = (p : Power) (d : Disc) (ws : List Write) (anything : List ℕ) (k : ℕ) → Away k ws → at (puts p d ws anything) k ≡ at d k

-- either the power is gone after the writes, or all of them are done
abbrev pub GoneOrDone : Type 0
GoneOrDone = (p : Power) (d : Disc) (ws : List Write) (anything : List ℕ) → (spent_by p ws ≡ Gone) ⊎ (puts p d ws anything ≡ written d ws)
