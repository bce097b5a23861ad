-- The pages decide, then the history's bits, then the policy's own rules.
use Rattle.std.proofs.Common.{◌≡◌, sym, ◌∙◌, true, ◌++◌, eq-eqb, ne_eqb}
use native.Mathlib.Omega.{arith}
use borrow.Author.Tests.{eqb-true, eqb-false}
use Rattle.figures.specs.Entry.{bits, total, none_of, differ}
use Rattle.figures.specs.Directory.{listed}
use Rattle.figures.specs.Words.{decode}
use Rattle.soundness.proofs.Tests.{alone, never}
use Rattle.soundness.proofs.Parts.{told, all_stand, history_stands}
use Rattle.soundness.proofs.Held.entries_sound.Goals.{then-pages_differ, else-pages_differ}
use Rattle.soundness.proofs.Held.entries_sound.Goals as goal

pub returns-then-count-eq0 : goal.returns-then-count-eq0
returns-then-count-eq0 c =
    let d = decode c.args.self.dir.now in
    let differs : c.pages_differ.result ≡ differ (listed d) =
    told (all_stand c.args.self.held) c.pages_differ.ensures (omega arith) (omega arith) in
    elim c.if-pages_differ.branch [
      | then-pages_differ w ↦
          let all_differ : differ (listed d) ≡ true = sym differs ∙ w.if-pages_differ.true in
          let bits_set : w.count.result ≡ total bits (d.b1 ++ d.b2) =
          told (history_stands c.args.self.held) w.count.ensures.1 (omega arith) (omega arith) in
          let none_set : none_of bits (d.b1 ++ d.b2) ≡ true =
          eq-eqb _ 0 (sym bits_set ∙ eqb-true _ 0 (sym w.value-is ∙ c.if-count-eq0.true)) in
          c.own_sound.ensures ∙ rw (all_differ, none_set) (alone _)
      | else-pages_differ w ↦ absurd (never (w.value-is ∙ w.if-pages_differ.false) c.if-count-eq0.true)
    ]

pub returns-else-count-eq0 : goal.returns-else-count-eq0
returns-else-count-eq0 c =
    let d = decode c.args.self.dir.now in
    let differs : c.pages_differ.result ≡ differ (listed d) =
    told (all_stand c.args.self.held) c.pages_differ.ensures (omega arith) (omega arith) in
    c.if-count-eq0.false
    ∙ elim c.if-pages_differ.branch [
      | then-pages_differ w ↦
          let all_differ : differ (listed d) ≡ true = sym differs ∙ w.if-pages_differ.true in
          let bits_set : w.count.result ≡ total bits (d.b1 ++ d.b2) =
          told (history_stands c.args.self.held) w.count.ensures.1 (omega arith) (omega arith) in
          let some_set = eqb-false _ 0 (sym w.value-is ∙ c.if-count-eq0.false) in
          rw (all_differ, ne_eqb _ 0 (λ none. some_set (bits_set ∙ none)))
      | else-pages_differ w ↦ rw (sym differs ∙ w.if-pages_differ.false)
    ]
