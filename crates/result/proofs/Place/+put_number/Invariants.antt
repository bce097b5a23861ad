-- A tenth of the number is smaller than the number.
use Rattle.result.proofs.Place.+put_number.Given as goal

abbrev pub decreases-put_number : goal.decreases-put_number
decreases-put_number l = l.n
