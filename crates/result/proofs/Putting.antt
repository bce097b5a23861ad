-- Bytes put one after another: what is put first and what is put behind it are put as one.
use mathlib.Core.Path.{◌≡◌, refl, sym, ap, subst, ◌∙◌}
use mathlib.Core.List.{List, [], ◌∷◌, ◌++◌, append_assoc, append-nil}
use Prim.Native.Nat.{ℕ, ◌+◌, ◌≤◌, ◌<◌}
use native.Mathlib.Omega.{arith}
use native.Mathlib.Numerals.{add-one}
use native.Mathlib.Nat.{zero-add}
use lib.ListN.{set, take, drop, length-append, length-set, take-append-drop}
use lib.Seq.{paste, take-length, take-paste, drop-paste, length-paste, take-suc-set, drop-set-lt, drop-drop}
use Rattle.terms.specs.Choice.{∣◌∣}
use Rattle.sheets.specs.Refusals.{over}
use Rattle.result.specs.Put.{PutFits, Put}

-- A whole text pasted, and one byte stored.
pub pasted : {w : List ℕ} {at : ℕ} {s : List ℕ} → PutFits w at s → Put w at s (paste w at s ∣ s ∣) (at + ∣ s ∣)
pasted {w} {at} {s} room = record {
  next_is = refl;
  front_is = take-paste w at s ∣ s ∣ (omega arith) (omega arith) ∙ ap (λ (t : List ℕ). take at w ++ t) (take-length s);
  rest_stays = drop-paste w at s ∣ s ∣ (omega arith) (omega arith);
  as_long = length-paste w at s ∣ s ∣ room.fits (omega arith);
}

pub stored : {w : List ℕ} {at b : ℕ} → PutFits w at (b ∷ []) → Put w at (b ∷ []) (set w at b) (at + 1)
stored {w} {at} {b} room =
    let within : at < ∣ w ∣ = omega arith in
    record {
      next_is = refl;
      front_is = rw add-one (take-suc-set w at b within);
      rest_stays = drop-set-lt (at + 1) w at b (omega arith);
      as_long = length-set w at b;
    }

-- Nothing put.
pub none_put : {w : List ℕ} {at : ℕ} → Put w at [] w at
none_put {w} {at} =
    record { next_is = omega arith; front_is = sym (append-nil (take at w)); rest_stays = refl; as_long = refl }

-- One after another.
pub both : {w w' w'' x y : List ℕ} {a b c : ℕ} → Put w a x w' b → Put w' b y w'' c → Put w a (x ++ y) w'' c
both {w} {w'} {w''} {x} {y} {a} {b} {c} p q = record {
  next_is = omega (arith, length-append x y);
  front_is = q.front_is ∙ ap (λ (t : List ℕ). t ++ y) p.front_is ∙ append_assoc (take a w) x y;
  rest_stays = q.rest_stays ∙ further w' ∙ ap (drop ∣ y ∣) p.rest_stays ∙ sym (further w);
  as_long = q.as_long ∙ p.as_long;
}
  where
    further : (l : List ℕ) → drop c l ≡ drop ∣ y ∣ (drop b l)
    further l = ap (λ (n : ℕ). drop n l) q.next_is ∙ sym (drop-drop ∣ y ∣ b l)

-- What is asked for, said as it is put.
pub put_as : {w x y w' : List ℕ} {a b : ℕ} → x ≡ y → Put w a y w' b → Put w a x w' b
put_as {w} {w' = w'} {a} {b} same p = subst (λ (x : List ℕ). Put w a x w' b) (sym same) p

pub room_as : {w x y : List ℕ} {a : ℕ} → x ≡ y → PutFits w a x → PutFits w a y
room_as {w} {a = a} same room = subst (λ (x : List ℕ). PutFits w a x) same room

-- Room for both is room for the first, and after it for the second.
-- Such a law is handed to `omega` as it is, which applies it to what a place knows.
pub room_both : {w : List ℕ} {a : ℕ} (x y : List ℕ) → PutFits w a (x ++ y) → a + (∣ x ∣ + ∣ y ∣) ≤ ∣ w ∣
room_both x y room = omega (arith, length-append x y)

-- What is put from the front on stands over the buffer.
pub put_over : {w x w' : List ℕ} {n : ℕ} → Put w 0 x w' n → w' ≡ over x w
put_over {w} {x} {w'} {n} p =
    sym (take-append-drop n w')
    ∙ ap (λ (front : List ℕ). front ++ drop n w') p.front_is
    ∙ ap (λ (rest : List ℕ). x ++ rest) (p.rest_stays ∙ ap (λ (k : ℕ). drop k w) (p.next_is ∙ zero-add ∣ x ∣))
