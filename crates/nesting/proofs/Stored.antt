-- What the operations make is right, and a right value says what it has to.
use Rattle.promises.proofs.Ground.{stored_means}
use Rattle.tree.specs.Stored.{made}
use Rattle.tree.proofs.Stored.{stored_right}
use Rattle.nesting.specs.Stored.{StoredTrue}

pub stored_true : StoredTrue
stored_true m e = stored_means (made m) e (stored_right m)
