use Rattle.disc.proofs.Every.{every_list}
use Rattle.disc.proofs.Held.{held_fits}
use Rattle.disc.proofs.format.what_fits_has_disc.Goals as goal

pub returns : goal.returns
returns c = record { every = every_list; held = held_fits }
