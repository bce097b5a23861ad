-- The trace by the answers of one line after the other: how a count, and a buffer, grow with each.
use mathlib.Core.Path.{◌≡◌, refl, sym, ap, ◌∙◌}
use mathlib.Core.List.{List, ◌++◌, append_assoc}
use Prim.Native.Nat.{ℕ, suc, ◌+◌}
use native.Mathlib.Omega.{arith}
use lib.ListN.{drop, length-append}
use Rattle.terms.specs.Choice.{∣◌∣, numbers_from}
use Rattle.sheets.specs.Lines.{lines}
use Rattle.traces.specs.Trace.{yields, Pages, taken, refused_at, onto, pages_from}
use Rattle.terms.proofs.Rows.{numbers_length}
use Rattle.result.specs.Put.{Put}
use Rattle.result.proofs.Putting.{both}
use Rattle.std.specs.Prelude.{Ok}
use Rattle.council.specs.Answers.{LineRead, Size, amount, refuses, size_of}
use Rattle.council.specs.declared.record_lines.Yielded.{Yielded}

-- THE COUNT

-- What n pages before them add to what lines come to.
abbrev pub after : ℕ → Size → Size
after n (amount count) = amount (n + count)
after n (refuses number line) = refuses number line

after_more : (k n first count : ℕ) (ps : Pages)
    → after n (size_of (onto k (yields (numbers_from first count)) ps)) ≡ after (n + count) (size_of ps)
after_more k n first count (taken pages) =
    let row = numbers_from first count in
    let h : n + ∣ row ++ pages ∣ ≡ n + count + ∣ pages ∣ =
    omega (arith, length-append row pages, numbers_length first count) in
    ap amount h
after_more k n first count (refused_at number line) = refl

-- After k lines, n pages are counted.
pub record Counting (s : List ℕ) (unit at k n : ℕ) : Type 0 where
  pub comes_to : size_of (pages_from unit 0 0 (lines s)) ≡ after n (size_of (pages_from unit k n (lines (drop at s))))

module _ {s : List ℕ} {at unit k n : ℕ} (so_far : Counting s unit at k n) where
  one_more : suc k ≡ k + 1
  one_more = omega arith

  pub counts_on : {y : Yielded} → LineRead s at unit n (Ok y) → Counting s unit y.next (k + 1) (n + y.count)
  counts_on {y} read =
      let rest : ℕ → Pages = λ j. pages_from unit j (n + y.count) (lines (drop y.next s)) in
      record {
        comes_to =
            so_far.comes_to
            ∙ ap (λ ps. after n (size_of ps)) (read.goes-on k)
            ∙ after_more (suc k) n y.first y.count (rest (suc k))
            ∙ ap (λ (j : ℕ). after (n + y.count) (size_of (rest j))) one_more;
      }

-- THE BUFFER

-- What pages that are written already add to what lines come to.
abbrev pub behind : List ℕ → Pages → Pages
behind written (taken pages) = taken (written ++ pages)
behind written (refused_at number line) = refused_at number line

behind_more : (written pages : List ℕ) (k : ℕ) (ps : Pages)
    → behind written (onto k (yields pages) ps) ≡ behind (written ++ pages) ps
behind_more written pages k (taken more) = ap taken (sym (append_assoc written pages more))
behind_more written pages k (refused_at number line) = refl

-- Of the pages of the trace, these are written, in a buffer that held w; so many lines are behind.
pub record Writing (s : List ℕ) (unit at n : ℕ) (w now : List ℕ) : Type 0 where
  pub written : List ℕ
  pub lines_behind : ℕ
  pub put : Put w 0 written now n
  pub others_follow : pages_from unit 0 0 (lines s) ≡ behind written (pages_from unit lines_behind n (lines (drop at s)))

module _ {s : List ℕ} {unit at n : ℕ} {w now : List ℕ} (h : Writing s unit at n w now) where
  pub writes_on : {y : Yielded} {m : ℕ} {now' : List ℕ} → LineRead s at unit n (Ok y)
      → Put now n (numbers_from y.first y.count) now' m → Writing s unit y.next m w now'
  writes_on {y} {m} read puts =
      let row = numbers_from y.first y.count in
      let k = h.lines_behind in
      let as_many : n + y.count ≡ m = omega (arith, puts.next_is, numbers_length y.first y.count) in
      record {
        written = h.written ++ row;
        lines_behind = suc k;
        put = both h.put puts;
        others_follow =
            h.others_follow
            ∙ ap (behind h.written) (read.goes-on k)
            ∙ behind_more h.written row (suc k) (pages_from unit (suc k) (n + y.count) (lines (drop y.next s)))
            ∙ ap (λ (i : ℕ). behind (h.written ++ row) (pages_from unit (suc k) i (lines (drop y.next s)))) as_many;
      }
