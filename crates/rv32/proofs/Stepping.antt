-- An instruction carried out in steps.
use Rattle.std.proofs.Common.{◌≡◌, ℕ, ◌+◌, ◌%◌, ◌≤◌, true, false, eqb, leb, List, length, Some, Option, refl, ap, ◌∙◌, ⊎_elim}
use Rattle.std.proofs.lemmas.Bool.{le-leb, lt-leb, eq-eqb, ne_eqb, and_right}
use Rattle.octets.specs.Words.{word_at}
use Rattle.turns.specs.Core.Act.{quiet, store, wrong}
use Rattle.instructions.specs.declared.instruction.LoadWidth.{LoadWidth}
use Rattle.instructions.specs.declared.instruction.StoreWidth.{StoreWidth}
use Rattle.rv32.specs.declared.cpu.Cpu.{Cpu}
use Rattle.rv32.specs.declared.cpu.Effect.{Effect}
use Rattle.rv32.specs.declared.cpu.Effect.TheVariants as E
use Rattle.rv32.specs.Execute.{performed, finished}
use Rattle.rv32.specs.Act.{load_size, loaded, store_size, stored, meets, completed, effected, act_of}
use Rattle.rv32.specs.Steps.{Misses, Steps}

meets_true : (size a n : ℕ) → a % n ≡ 0 → a + n ≤ size → meets size a n ≡ true
meets_true size a n h k = rw (eq-eqb (a % n) 0 h, le-leb (a + n) size k)

meets_false : (size a n : ℕ) → Misses size a n → meets size a n ≡ false
meets_false size a n = ⊎_elim
    (λ h. rw (ne_eqb (a % n) 0 h))
    (λ h. and_right (eqb (a % n) 0) (leb (a + n) size) (lt-leb (a + n) size h))

module _ (c : Cpu) (m : List ℕ) where
  pub not_fetched : meets (length m) c.pc 4 ≡ false → act_of c m ≡ wrong
  unfolding act_of
  not_fetched h = rw h

  pub fetched : (d : Cpu) (w : ℕ) (e : Option Effect) → meets (length m) c.pc 4 ≡ true → w ≡ word_at m c.pc → e ≡ (performed w c).0 → d ≡ (performed w c).1
      → act_of c m ≡ effected m (e, d)
  unfolding act_of
  fetched d w e h p q r = rw (h, ← p, q, r)

  -- the same, for the place at which the word was found
  pub carried : (d : Cpu) (w at : ℕ) (e : Option Effect) → (meets (length m) c.pc 4 ≡ true) × (at ≡ c.pc) → w ≡ word_at m at → e ≡ (performed w c).0 → d ≡ (performed w c).1
      → act_of c m ≡ effected m (e, d)
  carried d w at e met p q r = fetched d w e met.0 (p ∙ ap (word_at m) met.1) q r

  pub not_loaded : (width : LoadWidth) (rd a : ℕ) → meets (length m) a (load_size width) ≡ false → effected m (Some (E.Load width rd a), c) ≡ wrong
  unfolding effected completed
  not_loaded width rd a h = rw h

  pub has_loaded : (width : LoadWidth) (rd a : ℕ) → meets (length m) a (load_size width) ≡ true → effected m (Some (E.Load width rd a), c) ≡ quiet (finished c rd (loaded width m a))
  unfolding effected completed
  has_loaded width rd a h = rw h

  pub not_stored : (width : StoreWidth) (a v : ℕ) → meets (length m) a (store_size width) ≡ false → effected m (Some (E.Store width a v), c) ≡ wrong
  unfolding effected completed
  not_stored width a v h = rw h

  pub has_stored : (width : StoreWidth) (a v : ℕ) → meets (length m) a (store_size width) ≡ true → effected m (Some (E.Store width a v), c) ≡ store a (stored width v) c
  unfolding effected completed
  has_stored width a v h = rw h

pub steps : Steps
unfolding effected completed
steps = record {
  no_fetch = λ c m h. not_fetched c m (meets_false _ _ _ h);
  fetch = λ c d m w e h k p q r. fetched c m d w e (meets_true _ _ _ h k) p q r;
  nothing = λ c m. refl;
  call = λ c m a. refl;
  no_word = λ c m. refl;
  no_load = λ c m width rd a h. not_loaded c m width rd a (meets_false _ _ _ h);
  load = λ c m width rd a h k. has_loaded c m width rd a (meets_true _ _ _ h k);
  no_store = λ c m width a v h. not_stored c m width a v (meets_false _ _ _ h);
  puts = λ c m width a v h k. has_stored c m width a v (meets_true _ _ _ h k);
}
