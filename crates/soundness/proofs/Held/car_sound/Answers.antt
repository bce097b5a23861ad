-- CAR's rules in turn; the count of flag 2 is that of filter L.
use Rattle.std.proofs.Common.{◌≡◌, refl, sym, ◌∙◌, arith}
use borrow.Author.Tests.{eqb-true, eqb-false}
use Rattle.figures.specs.Entry.{long, total}
use Rattle.figures.specs.Directory.{listed}
use Rattle.figures.specs.Words.{decode}
use Rattle.figures.specs.Car.{car_sound}
use Rattle.terms.proofs.Tests.{reads, agree}
use Rattle.soundness.proofs.Tests.{fails}
use Rattle.soundness.proofs.Parts.{told, all_stand}
use Rattle.soundness.proofs.Held.car_sound.Goals.{then-dir-eq0, else-dir-eq0}
use Rattle.soundness.proofs.Held.car_sound.Goals as goal

pub returns-then-count-eq0 : goal.returns-then-count-eq0
unfolding car_sound
returns-then-count-eq0 c =
    elim c.if-dir-eq0.branch [
      | then-dir-eq0 w ↦
          let ones : w.count.result ≡ total long (listed (decode c.args.self.dir.now)) =
          told (all_stand c.args.self.held) w.count.ensures.1 (omega arith) (omega arith) in
          let none_long = sym ones ∙ eqb-true _ 0 (sym w.value-is ∙ c.if-count-eq0.true) in
          agree
          _
          _
          (λ h. let said = simp reads at h in simp reads (w.if-dir-eq0.true, (none_long, (omega arith, refl))))
          (λ h. let said = simp reads at h in simp reads (omega arith))
      | else-dir-eq0 w ↦ absurd (w.if-dir-eq0.false (eqb-true _ 0 (sym w.value-is ∙ c.if-count-eq0.true)))
    ]

pub returns-else-count-eq0 : goal.returns-else-count-eq0
unfolding car_sound
returns-else-count-eq0 c =
    c.if-count-eq0.false
    ∙ elim c.if-dir-eq0.branch [
      | then-dir-eq0 w ↦
          let ones : w.count.result ≡ total long (listed (decode c.args.self.dir.now)) =
          told (all_stand c.args.self.held) w.count.ensures.1 (omega arith) (omega arith) in
          fails _ (λ h. let said = simp reads at h in eqb-false _ 0 (sym w.value-is ∙ c.if-count-eq0.false) (ones ∙ said.1.0))
      | else-dir-eq0 w ↦ fails _ (λ h. let said = simp reads at h in w.if-dir-eq0.false said.0)
    ]
