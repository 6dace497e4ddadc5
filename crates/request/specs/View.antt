-- The code's types, as the rules speak of them.
use Rattle.std.specs.Prelude.{◌<◌}
use Rattle.apdu.specs.View.{shape_of}
use Rattle.apdu.specs.Writing.{Proper}
use Rattle.law.specs.Request as line
use Rattle.apdu.specs.declared.kind.Kind.{Kind}
use Rattle.apdu.specs.declared.kind.Kind.TheVariants.{Discovery, Master, Connection, Start, Terminate}
use Rattle.request.specs.declared.request.Request.{Request}
use Rattle.request.specs.declared.request.Request.TheVariants.{Malformed, Other, Unlisted, Begin, Continue, Discover, Answer, GoOn, Block, Fetch, Discard}

abbrev pub kind_of : Kind → line.Kind
kind_of Discovery = line.discovery
kind_of Master = line.master
kind_of Connection = line.connection
kind_of Start = line.start
kind_of Terminate = line.terminate

abbrev pub asks : Request → line.Request
asks Malformed = line.malformed
asks Other = line.other
asks Unlisted = line.unlisted
asks (Begin k b) = line.begin (kind_of k) (shape_of b)
asks (Continue k b) = line.continue (kind_of k) (shape_of b)
asks (Discover b) = line.discover (shape_of b)
asks (Answer k b) = line.answer (kind_of k) (shape_of b)
asks (GoOn k b) = line.go_on (kind_of k) (shape_of b)
asks (Block b) = line.block b.row b.p2 (shape_of b.body)
asks (Fetch f) = line.fetch f.row f.number (shape_of f.body)
asks (Discard d) = line.discard d.row (shape_of d.body)

-- A request is well formed: its row is one of the four, data has 1 to 255 bytes, and Le asks for 1 to 256.
abbrev pub Formed : Request → Type 0
Formed (Block b) = (b.row < 4) × Proper (shape_of b.body)
Formed (Fetch f) = (f.row < 4) × Proper (shape_of f.body)
Formed (Discard d) = (d.row < 4) × Proper (shape_of d.body)
Formed Malformed = Unit {0}
Formed Other = Unit {0}
Formed Unlisted = Unit {0}
Formed (Begin k b) = Proper (shape_of b)
Formed (Continue k b) = Proper (shape_of b)
Formed (Discover b) = Proper (shape_of b)
Formed (Answer k b) = Proper (shape_of b)
Formed (GoOn k b) = Proper (shape_of b)
