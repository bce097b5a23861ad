-- An accepted request or run of C's leaves a sound directory with the requested page in T1 or T2, by the promise alone.
use mathlib.Core.Path.{sym, ◌∙◌}
use Rattle.directory.proofs.Kept.{request_accepted, run_accepted_sound, run_accepted_last}
use Rattle.exports.specs.Demands.{RequestLeavesPage, RunLeavesSound, RunLeavesLastPage}

pub request_leaves_page : RequestLeavesPage
request_leaves_page w x r w' p accepted = request_accepted w x p.words_are (sym p.number_is ∙ accepted)

pub run_leaves_sound : RunLeavesSound
run_leaves_sound w trace answers r w' answers' p accepted =
    run_accepted_sound w trace answers p.words_are (sym p.number_is ∙ accepted)

pub run_leaves_last_page : RunLeavesLastPage
run_leaves_last_page w trace x answers r w' answers' p accepted =
    run_accepted_last w trace x answers p.words_are (sym p.number_is ∙ accepted)
