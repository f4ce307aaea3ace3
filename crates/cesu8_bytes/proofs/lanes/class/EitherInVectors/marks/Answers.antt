-- A lane is marked for `Either<A, B>` if it is marked for A or for B.
use Rattle.cesu8_bytes.proofs.lists.Classes.{either_marks}
use Rattle.cesu8_bytes.proofs.lanes.class.EitherInVectors.marks.Goals as goal

pub returns : goal.returns
returns g c = either_marks g.A.Class.class g.B.Class.class c.args.bytes _ _ c.marks.ensures c.marks-2.ensures
