-- Where no row changed, each answer is kept.
use Rattle.tables.specs.declared.rows.Tables.{Tables}
use Rattle.tables.specs.View.{Keeps}
use Rattle.tables.proofs.Kept.{all_kept}

pub stays : (t : Tables) → Keeps t t
stays t = all_kept t.connections
