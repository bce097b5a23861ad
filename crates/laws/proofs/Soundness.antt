-- The test of soundness says of a directory's words just what Facts says of its value.
-- `simp says`, below, turns the test into facts, and facts into the test.
use Rattle.std.specs.Prelude.{if◌then◌else◌}
use mathlib.Core.Path.{◌≡◌, refl}
use mathlib.Core.Bool.{Bool, true, false}
use mathlib.Core.Logic.{◌↔◌}
use mathlib.Core.List.{List, [], ◌∷◌}
use Prim.Native.Nat.{ℕ, zero, suc, ◌+◌, ◌-◌, ◌*◌, ◌≤◌}
use native.Mathlib.Omega.{arith}
use lib.ListN.{take, drop, replicate}
use lib.Dec.{eqb}
use borrow.Author.Tests.{eqb-true}
use Rattle.terms.specs.Choice.{all_at_most}
use Rattle.terms.proofs.Tests.{reads}
use Rattle.figures.specs.Entry.{Entry, total, differ}
use Rattle.figures.specs.Directory.{Directory, cached, remembered, listed, in_cache}
use Rattle.figures.specs.Words.{flags, most_flags, words, used, unused, encode, decode}
use Rattle.figures.specs.Car.{car_sound}
use Rattle.figures.specs.Cart.{cart_sound}
use Rattle.figures.specs.Classics.{alone_sound, clear_sound}
use Rattle.figures.specs.Sound.{flag_words, sound}
use Rattle.figures.specs.Demands.{Sound}
use Rattle.laws.proofs.Lists.{is, is_itself, total_append, lacks_counts, counts_lacks}
use Rattle.laws.proofs.Lists.{bits_at_most_one, short_or_long}
use Rattle.laws.proofs.Facts.{in_history, CarFacts, CartFacts, AloneFacts, ClearFacts, Facts}
use Rattle.laws.proofs.Encoding.{decode_encode, encode_decode, words_fit, used_words, unused_words}

-- Pages that differ are pages that count at most once.
differ_counts : (l : List Entry) → differ l ≡ true → (x : ℕ) → total (is x) l ≤ 1
differ_counts [] h x = omega arith
differ_counts (e ∷ l) h x =
    let said = simp reads at h in
    go (eqb e.page x) refl (lacks_counts e.page l said.0) (differ_counts l said.1 x)
  where
    go : (b : Bool) → eqb e.page x ≡ b → total (is e.page) l ≡ 0 → total (is x) l ≤ 1
        → (if b then 1 else 0) + total (is x) l ≤ 1
    go true same none most = omega (arith, rw (eqb-true e.page x same) at none)
    go false same none most = omega arith

counts_differ : (l : List Entry) → ((x : ℕ) → total (is x) l ≤ 1) → differ l ≡ true
counts_differ [] h = refl
counts_differ (e ∷ l) h =
    let lacks = counts_lacks e.page l (omega (arith, h e.page, is_itself e.page e refl)) in
    simp reads (lacks, counts_differ l (λ x. omega (arith, h x)))

pub differ_iff : (l : List Entry) → (differ l ≡ true) ↔ ((x : ℕ) → total (is x) l ≤ 1)
differ_iff l = (differ_counts l, counts_differ l)

-- The tests that hold of every directory's words.
flags_at_most : (e : Entry) → flags e ≤ most_flags
flags_at_most e = omega (arith, bits_at_most_one e, short_or_long e.filter)

words_small : (l : List Entry) → all_at_most most_flags (flag_words (words l)) ≡ true
words_small [] = refl
words_small (e ∷ l) = simp reads (flags_at_most e, words_small l)

zeros_small : (n : ℕ) → all_at_most 0 (replicate n 0) ≡ true
zeros_small zero = refl
zeros_small (suc n) = zeros_small n

module _ (d : Directory) where
  flags_small : all_at_most most_flags (flag_words (take (used (encode d)) (drop 8 (encode d)))) ≡ true
  flags_small = rw used_words (words_small (listed d))

  unused_small : all_at_most 0 (unused (encode d)) ≡ true
  unused_small = rw unused_words (zeros_small (4 * d.c - 2 * (cached d + remembered d)))

  total_listed : (count : Entry → ℕ) → total count (listed d) ≡ in_cache count d + in_history count d
  total_listed count = simp total_append (omega arith)

  -- What the test says of d. Its facts are those of Facts, in another order: search puts each in its place.
  ruleset says = (decode_encode, reads, differ_iff, total_listed, total_append)

  pub car_iff : (car_sound (encode d) ≡ true) ↔ CarFacts d
  unfolding car_sound
  car_iff = (λ h. let said = simp says at h in search, λ f. simp says search)

  pub cart_iff : (cart_sound (encode d) ≡ true) ↔ CartFacts d
  unfolding cart_sound
  cart_iff = (λ h. let said = simp says at h in search, λ f. simp says search)

  pub alone_iff : (alone_sound (encode d) ≡ true) ↔ AloneFacts d
  unfolding alone_sound
  alone_iff = (λ h. let said = simp says at h in search, λ f. simp says search)

  pub clear_iff : (clear_sound (encode d) ≡ true) ↔ ClearFacts d
  unfolding clear_sound
  clear_iff = (λ h. let said = simp (says, alone_iff) at h in search, λ f. simp (says, alone_iff) search)

  pub facts : Sound d → Facts d
  unfolding sound
  facts h = let said = simp says at h in search

  pub facts_sound : Facts d → Sound d
  unfolding sound
  facts_sound f =
      let fits = words_fit d (omega arith) in
      let flags-3 = flags_small in
      let unused-0 = unused_small in
      simp says search

pub facts_of_words : (w : List ℕ) → sound w ≡ true → Facts (decode w)
facts_of_words w h = facts (decode w) (rw (encode_decode w h) h)
