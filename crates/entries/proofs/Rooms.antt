-- What room the words of a directory have for what the leaves do: where it is full, after the evict part, after trim.
-- Over the policy that a directory names.
use mathlib.Core.Path.{◌≡◌, refl, sym, ◌∙◌, subst}
use mathlib.Core.Bool.{true}
use mathlib.Core.List.{List}
use Prim.Native.Nat.{ℕ, ◌+◌, ◌*◌, ◌≤◌}
use native.Mathlib.Omega.{arith}
use Rattle.terms.specs.Choice.{∣◌∣}
use Rattle.figures.specs.Directory.{Directory, cached, remembered}
use Rattle.figures.specs.Words.{encode, decode}
use Rattle.figures.specs.Policy.{policy_of}
use Rattle.laws.proofs.Facts.{Shared, Opened, Trimmed, trimmed_cached, own_by}
use Rattle.laws.proofs.Encoding.{encoded, encode_decode, words_fit}
use Rattle.laws.proofs.Soundness.{facts_of_words}
use Rattle.entries.specs.Holds.{Holds}
use Rattle.entries.specs.Stretches.{Room, start_of}
use Rattle.entries.specs.Returning.{Full, Freed}
use Rattle.entries.proofs.Laid.{header}

-- Lists that fit leave room.
pub roomy : (d : Directory) {w : List ℕ} → Holds d w → cached d + remembered d ≤ 2 * d.c → d.c ≤ 1024 → Room w
roomy d is fits small = let n = words_fit d fits in subst Room is (record { short = omega arith; held = omega arith })

-- Sound words whose cache is full: what the laws of the definitions ask of them.
pub record Filled (policy : ℕ) (w : List ℕ) : Type 0 where
  pub is : Holds (decode w) w
  pub shared : Shared (decode w)
  pub own : (policy_of policy).own_sound (encode (decode w)) ≡ true
  pub full : cached (decode w) ≡ (decode w).c
  pub room : Room w

pub filled : {policy : ℕ} {w : List ℕ} → Full policy w → Filled policy w
filled {w = w} known =
    let d = decode w in
    let is = encode_decode w known.is_sound in
    let f = facts_of_words w known.is_sound in
    let h = header d w is in
    let s = f.shared in
    record {
      is = is;
      shared = s;
      own = own_by f (sym h.policy ∙ known.is_named);
      full = omega (arith, known.is-full);
      room = roomy d is (omega (arith, s.cache_fits, s.history_fits)) s.bounds.of_c.c_most;
    }

-- What the evict part leaves of them is what a page that comes back, or a new one, needs.
pub freed : {policy : ℕ} {w W : List ℕ} → Filled policy w → (d' : Directory) → Holds d' W → Opened (decode w) d'
    → Freed W
freed {W = W} f d' is o =
    let h = header d' W is in
    let s = f.shared in
    let full = f.full in
    let c = o.same_c in
    let p = o.same_p in
    let less = o.one_less in
    let more = o.one_more in
    record {
      is = encoded d' is;
      bounds = omega (arith, s.bounds);
      one_free = omega arith;
      history_most = omega (arith, s.history_fits);
      room = roomy d' is (omega (arith, s.history_fits)) (omega (arith, s.bounds));
    }

-- After trim there is room for one more entry.
pub record RoomForOne (d d' : Directory) : Type 0 where
  pub one_fits : cached d' + remembered d' + 1 ≤ 2 * d.c
  pub same_c : d'.c ≡ d.c

pub trimmed_fits : {d d' : Directory} → cached d + 1 ≡ d.c → Trimmed d d' → RoomForOne d d'
trimmed_fits one_free t =
    let size = trimmed_cached t in record { one_fits = omega (arith, t.history_fits); same_c = t.same_c }

pub room_for_new : (d d' : Directory) {w : List ℕ} → Holds d' w → RoomForOne d d' → d.c ≤ 1024
    → Room w × (start_of 4 w + 2 ≤ ∣ w ∣)
room_for_new d d' is fits small =
    let c = fits.same_c in
    let one = fits.one_fits in
    let n = words_fit d' (omega arith) in
    subst (λ (v : List ℕ). Room v × (start_of 4 v + 2 ≤ ∣ v ∣)) is
    (roomy d' refl (omega arith) (omega arith), omega arith)
