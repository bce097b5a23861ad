-- Soundness by the four answers that is_sound asks for in turn: the sizes, the flags, the zeros, the entries.
-- Each is needed, and together they are all of it.
use mathlib.Core.Path.{◌≡◌}
use mathlib.Core.Bool.{Bool, true}
use mathlib.Core.List.{List}
use Prim.Native.Nat.{ℕ}
use lib.ListN.{take, drop}
use Rattle.figures.specs.Words.{most_flags, used, unused}
use Rattle.terms.specs.Choice.{all_at_most}
use Rattle.terms.proofs.Tests.{reads, agree}
use Rattle.figures.specs.Sound.{flag_words, sound}
use Rattle.laws.proofs.Encoding.{shaped}
use Rattle.soundness.specs.Orderly.{Orderly, sizes_fit, WordsHeld, entries_sound}

abbrev pub flags_known : List ℕ → Bool
flags_known w = all_at_most most_flags (flag_words (take (used w) (drop 8 w)))

abbrev pub rest_zero : List ℕ → Bool
rest_zero w = all_at_most 0 (unused w)

-- Each is needed,
module _ (w : List ℕ) (h : sound w ≡ true) where
  pub sound_sizes : sizes_fit w ≡ true
  unfolding sound
  sound_sizes = let said = simp reads at h in simp reads (search)

  pub sound_flags : flags_known w ≡ true
  unfolding sound
  sound_flags = let said = simp reads at h in search

  pub sound_zeros : rest_zero w ≡ true
  unfolding sound
  sound_zeros = let said = simp reads at h in search

-- the first three make the words those of a directory,
module _ {w : List ℕ} (o : Orderly w)
    (sizes : sizes_fit w ≡ true) (flags : flags_known w ≡ true) (zeros : rest_zero w ≡ true) where
  pub held : WordsHeld w
  held = let said = simp reads at sizes in record {
    orderly = o;
    is = shaped w o.length_is said.1.0 said.1.1.0 flags zeros;
    cache_fits = said.1.0;
    history_fits = said.1.1.0;
  }

  -- and with them the entries decide.
  pub sound_entries : entries_sound w ≡ sound w
  unfolding sound
  sound_entries =
      let fits = simp reads at sizes in
      agree
      _
      _
      (λ h. let said = simp reads at h in simp reads (search))
      (λ h. let said = simp reads at h in simp reads (search))
