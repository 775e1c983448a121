-- The laws of tables and their worlds. Assumes nothing.
use Rattle.std.proofs.Common.{◌≡◌, ℕ, List, get_or, sym, refl, ap, ◌∙◌}
use Rattle.std.proofs.lemmas.List.{length-set}
use Rattle.octets.proofs.Tests.{get_or_set_by}
use Rattle.turns.specs.World.{process, nobody, opened, runs_in, is_running, handle_of, with_process, with_memory, with_pipe, with_file, with_keys, with_shown}
use Rattle.turns.proofs.Holds.{uses}
use Rattle.rv32.specs.Act.{core}
use Rattle.processes.specs.declared.Tables.{Tables}
use Rattle.processes.specs.Tabled.{Tabled, Same, Worlds, blank}
use Rattle.processes.specs.Laws.{Rows, RowsOf, rows_of, SameOfTables, BlindToMemory, BlindToOthers, HandlesLead}

pub tabled_memory : BlindToMemory
unfolding with_process with_memory process opened
tabled_memory t w p m h =
    record {
      places = length-set w.processes p _ ∙ h.places;
      each = λ r.
          get_or_set_by (Same t.sizes (get_or t.processes r blank)) w.processes p r _ (nobody core)
          (λ (i : r ≡ p).
          let e : Same t.sizes (get_or t.processes r blank) (get_or w.processes p (nobody core)) = rw i (h.each p) in
          record { state = e.state; parent = e.parent; cpu = e.cpu; handles = e.handles; count = e.count })
          (h.each r);
      ends = h.ends;
      opens = h.opens;
      turn = h.turn;
      used = h.used;
    }

-- worlds with the same processes, open things and turn have the same tables
pub tabled_same : (t : Rows) (w v : Worlds) → v.processes ≡ w.processes → v.opens ≡ w.opens → v.turn ≡ w.turn → v.used ≡ w.used → RowsOf t w → RowsOf t v
unfolding process opened
tabled_same t w v a b c d h =
    record { places = rw a h.places; each = λ p. rw a (h.each p); ends = rw b h.ends; opens = λ k. rw b (h.opens k); turn = h.turn ∙ sym c; used = h.used ∙ sym d }

pub tabled_others : BlindToOthers
unfolding with_pipe with_file with_keys with_shown
tabled_others t w i bs h =
    (tabled_same t w _ refl refl refl refl h, tabled_same t w _ refl refl refl refl h, tabled_same t w _ refl refl refl refl h, tabled_same t w _ refl refl refl refl h)

pub handles_lead : HandlesLead
unfolding runs_in handle_of
handles_lead t w p h k e n r l = uses core w p h k (sym (ap is_running (e.each p).state) ∙ r) (sym ((e.each p).handles h) ∙ l)

pub same_of_tables : SameOfTables
same_of_tables t w = (
  λ h. record { places = h.places; each = h.each; ends = h.ends; opens = h.opens; turn = h.turn; used = h.used },
  λ h. record { places = h.places; each = h.each; ends = h.ends; opens = h.opens; turn = h.turn; used = h.used },
)

-- of tables, one by one
pub tables_memory : (t : Tables) (w : Worlds) (p : ℕ) (m : List ℕ) → Tabled t w → Tabled t (with_process w p (with_memory (process core w p) m))
tables_memory t w p m h = (same_of_tables t _).1 (tabled_memory (rows_of t) w p m ((same_of_tables t w).0 h))

pub tables_pipe : (t : Tables) (w : Worlds) (j : ℕ) (bs : List ℕ) → Tabled t w → Tabled t (with_pipe w j bs)
tables_pipe t w j bs h = (same_of_tables t _).1 (tabled_others (rows_of t) w j bs ((same_of_tables t w).0 h)).0
