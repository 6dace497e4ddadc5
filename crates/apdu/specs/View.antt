-- The code's types, as the definitions speak of them.
use Rattle.apdu.specs.Command.{Shape, bare, le, alone, both, Command}
use Rattle.apdu.specs.declared.command.Apdu.{Apdu}
use Rattle.apdu.specs.declared.body.Body.{Body}
use Rattle.apdu.specs.declared.body.Body.TheVariants.{Bare, Le, Data, Both}

abbrev pub shape_of : Body → Shape
shape_of Bare = bare
shape_of (Le n) = le n.wanted
shape_of (Data ds) = alone ds.bytes.now
shape_of (Both ds n) = both ds.bytes.now n.wanted

abbrev pub command_of : Apdu → Command
command_of a = record { cla = a.cla; ins = a.ins; p1 = a.p1; p2 = a.p2; shape = shape_of a.body }
