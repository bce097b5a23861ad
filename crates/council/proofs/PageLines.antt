-- The page lines, put one after another: what one more adds, and how many bytes they have at most.
use mathlib.Core.Path.{◌≡◌, refl, sym, ap, ◌∙◌}
use mathlib.Core.List.{List, [], ◌∷◌, ◌++◌, append-nil, append_assoc}
use Prim.Native.Nat.{ℕ, ◌+◌, ◌*◌, ◌≤◌, ◌<◌, ◌^◌}
use native.Mathlib.Numerals.{add-one}
use native.Mathlib.Omega.{arith}
use lib.ListN.{get_or, take, length-append}
use lib.Seq.{take-suc, take_all}
use Rattle.terms.specs.Choice.{∣◌∣}
use Rattle.text.specs.Text.{bytes}
use Rattle.sheets.specs.Result.{decimal, line_of}
use Rattle.sheets.proofs.Numbers.{digits_of}
use Rattle.traces.specs.Refusals.{page_lines}
use Rattle.result.specs.declared.Place.{Place}
use Rattle.result.specs.Place.{Fits, Puts}
use Rattle.result.proofs.Placing.{none_put, both, put_as}

abbrev pub page_line : ℕ → List ℕ
page_line page = line_of (bytes "page=") (decimal page)

-- `page=`, at most ten digits, a line feed.
pub line_length : (page : ℕ) → page < 2 ^ 32 → ∣ page_line page ∣ ≤ 16
line_length page small =
    omega (arith, length-append (decimal page) (10 ∷ []), (digits_of page (omega arith)).few 9 (omega arith))

lines_append : (a b : List ℕ) → page_lines (a ++ b) ≡ page_lines a ++ page_lines b
lines_append [] b = refl
lines_append (page ∷ a) b =
    ap (λ l. page_line page ++ l) (lines_append a b) ∙ sym (append_assoc (page_line page) (page_lines a) (page_lines b))

lines_more : (pages : List ℕ) (i : ℕ) → i < ∣ pages ∣
    → page_lines (take (i + 1) pages) ≡ page_lines (take i pages) ++ page_line (get_or pages i 0)
lines_more pages i inside =
    let last = get_or pages i 0 in
    ap (λ (n : ℕ). page_lines (take n pages)) (add-one i)
    ∙ ap page_lines (take-suc pages i 0 inside)
    ∙ lines_append (take i pages) (last ∷ [])
    ∙ ap (λ l. page_lines (take i pages) ++ l) (append-nil (page_line last))

-- From a place in front on, so many lines are put, each of at most 16 bytes.
pub record Midway (start : Place) (pages : List ℕ) (i : ℕ) (now : Place) : Type 0 where
  pub some : i ≤ ∣ pages ∣
  pub few_bytes : now.at ≤ 16 * i
  pub puts : Puts start (page_lines (take i pages)) now

pub begins : (start : Place) (pages : List ℕ) → start.at ≡ 0 → Midway start pages 0 start
begins start pages front = record { some = omega arith; few_bytes = omega arith; puts = none_put }

module _ {start : Place} {pages : List ℕ} {i : ℕ} {now : Place} (h : Midway start pages i now) where
  module _ (inside : i < ∣ pages ∣) (small : get_or pages i 0 < 2 ^ 32) where
    pub room_for_line : 16 * ∣ pages ∣ ≤ ∣ start.out.now ∣ → Fits now (page_line (get_or pages i 0))
    room_for_line room =
        record { fits = omega (arith, h.few_bytes, h.puts.put.as_long, line_length (get_or pages i 0) small) }

    pub goes-on : {next : Place} → Puts now (page_line (get_or pages i 0)) next → Midway start pages (i + 1) next
    goes-on one = record {
      some = omega arith;
      few_bytes = omega (arith, h.few_bytes, one.put.next_is, line_length (get_or pages i 0) small);
      puts = put_as (lines_more pages i inside) (both h.puts one);
    }

  pub ends : ∣ pages ∣ ≤ i → Puts start (page_lines pages) now
  ends all = put_as (ap page_lines (sym (take_all i pages all))) h.puts
