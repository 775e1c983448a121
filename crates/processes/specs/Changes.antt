-- One thing of the tables changed, all else as it was. Assumes nothing: these are definitions.
use Rattle.std.specs.Prelude.{ℕ, List, ◌∷◌, replicate, Some, None, Option, ◌==◌, if◌then◌else◌}
use Rattle.turns.specs.World.{process}
use Rattle.turns.specs.World as W
use Rattle.turns.specs.declared.vocabulary.State.{State}
use Rattle.turns.specs.declared.vocabulary.State.TheVariants.{Free, Runs}
use Rattle.rv32.specs.declared.cpu.Cpu.{Cpu}
use Rattle.rv32.specs.Act.{core}
use Rattle.rv32.specs.Execute.{fresh, answered}
use Rattle.processes.specs.declared.Process.{Process}
use Rattle.processes.specs.Tabled.{Worlds}

abbrev pub with_handles : Process → List (Option ℕ) → Process
with_handles q hs = record q { handles = hs }

-- children of p get process 0 for a parent
abbrev pub without_parent : ℕ → Process → Process
without_parent p q = record q { parent = if q.parent == p then 0 else q.parent }

-- a place in which nobody runs: no handles are left, and no registers are looked at
abbrev pub away : State → ℕ → Process → Process
away s p q = record q { state = s; parent = p; handles = replicate 16 None }

-- a place with nobody in it, before anybody was
abbrev pub empty : Process
empty = record { state = Free; parent = 0; cpu = fresh 0; handles = replicate 16 None }

-- the first process, with n bytes of memory: handles 0, 1 and 2 lead to open thing 0
abbrev pub first : ℕ → Process
first n = record { state = Runs; parent = 0; cpu = fresh n; handles = Some 0 ∷ Some 0 ∷ Some 0 ∷ replicate 13 None }

-- IN THE WORLD

-- what a child of p is when it begins: what the parent is, but that its fork has the answer 0
abbrev pub child : Worlds → ℕ → W.Process Cpu
child w p =
    record { state = Runs; parent = p; cpu = answered (process core w p).cpu 0; memory = (process core w p).memory; handles = (process core w p).handles }

-- a process begins a program anew, in memory m, whose size is n
abbrev pub begun : ℕ → List ℕ → W.Process Cpu → W.Process Cpu
begun n m q = record { state = Runs; parent = q.parent; cpu = fresh n; memory = m; handles = q.handles }
