-- Texts put at a place one after another are put as one.
use mathlib.Core.Path.{◌≡◌, refl, sym, subst, ◌∙◌}
use mathlib.Core.List.{List, [], ◌∷◌, ◌++◌}
use Prim.Native.Nat.{ℕ}
use Rattle.sheets.specs.Lines.{line_feed}
use Rattle.sheets.specs.Result.{line_of}
use Rattle.result.specs.declared.Place.{Place}
use Rattle.result.specs.Place.{Puts}
use Rattle.result.proofs.Putting as Putting

-- Nothing put.
pub none_put : {p : Place} → Puts p [] p
none_put = record { same_bytes = refl; put = Putting.none_put }

-- One after another.
pub both : {p q r : Place} {x y : List ℕ} → Puts p x q → Puts q y r → Puts p (x ++ y) r
both first second = record {
  same_bytes = second.same_bytes ∙ first.same_bytes;
  put = Putting.both first.put second.put;
}

-- What is asked for, said as it is put.
pub put_as : {p q : Place} {x y : List ℕ} → x ≡ y → Puts p y q → Puts p x q
put_as {p} {q} same put = subst (λ (x : List ℕ). Puts p x q) (sym same) put

-- A line: its key, its value, a line feed.
pub line_put : {p q r s : Place} {key value : List ℕ} → Puts p key q → Puts q value r → Puts r (line_feed ∷ []) s
    → Puts p (line_of key value) s
line_put first second third = both first (both second third)
