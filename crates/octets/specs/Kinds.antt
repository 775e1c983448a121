-- Bytes, halves and words keep the laws of numbers. Assumes nothing.
use Rattle.std.specs.Prelude.{◌≡◌, ℕ, ◌+◌, refl}
use Rattle.std.proofs.Common.{arith}
use Rattle.octets.specs.Words.{byte_from, half_from, word_from, byte_bytes, half_bytes, word_bytes, NumberLaws}

-- the first of equal bytes
first : (f g : ℕ → ℕ) (a b : ℕ) → f (a + 0) ≡ g (b + 0) → f a ≡ g b
first f g a b h = let s : a + 0 ≡ a = omega arith in let t : b + 0 ≡ b = omega arith in rw s at (rw t at h)

pub byte_laws : NumberLaws 1 byte_from byte_bytes
byte_laws = record {
  some = omega arith;
  few = omega arith;
  pages = refl;
  same = λ f g a b h. first f g a b (h 0 (omega arith));
  long = λ x. refl;
}

pub half_laws : NumberLaws 2 half_from half_bytes
half_laws = record {
  some = omega arith;
  few = omega arith;
  pages = refl;
  same = λ f g a b h. rw (first f g a b (h 0 (omega arith)), h 1 (omega arith)) refl;
  long = λ x. refl;
}

pub word_laws : NumberLaws 4 word_from word_bytes
word_laws = record {
  some = omega arith;
  few = omega arith;
  pages = refl;
  same = λ f g a b h. rw (first f g a b (h 0 (omega arith)), h 1 (omega arith), h 2 (omega arith), h 3 (omega arith)) refl;
  long = λ x. refl;
}
