-- `front_step` decodes the bytes before the next byte that only UTF-8 has. That is a step of
-- the mixed conversion, of input that is UTF-8 in some parts and the encoding in others. The 4 is
-- the most bytes of a character in UTF-8, which the contract of `decode` names.
use Rattle.cesu8conv_run.proofs.Steps.{front-step}
use Rattle.cesu8conv_run.proofs.step.front_step.Goals as goal

pub returns : goal.returns
returns c =
    front-step c.args.flavor c.args.bytes.now c.args.is_last c.args.len 4 c.args.room.now c.decode-front.new.room
    c.decode-front.result c.decode-front.ensures
