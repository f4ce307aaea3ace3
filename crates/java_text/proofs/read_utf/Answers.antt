-- `split_counted` splits off the counted bytes, or says that the input ends before their end. Then no
-- string begins the input (`none_begins_truncated`). Otherwise `decode_strict_front`, a faster
-- `decode_strict` for the first bytes of a slice, promises each clause for the counted bytes. If it
-- rejects them, no string begins the input either, since the count allows no other bytes. What it
-- borrows from the counted bytes is borrowed from the input, which they are a part of.
use Rattle.std.proofs.Common.{ℕ, List, rules}
use Rattle.simd_cesu8.specs.Encoding.{Mutf8}
use Rattle.simd_cesu8.specs.Fault as decoding
use Rattle.simd_cesu8.specs.declared.error.DecodeFault.{DecodeFault}
use Rattle.simd_cesu8.specs.declared.error.DecodeFault.TheVariants.{Invalid, Memory}
use Rattle.simd_cesu8.specs.Reading.{HasNoStrictReading}
use Rattle.java_text.specs.Fault.{IfInvalid, read_fault_of}
use Rattle.java_text.specs.Form.{counted}
use Rattle.java_text.proofs.Forms.{counted_after_count, none_begins_rejected, none_begins_truncated}
use Rattle.java_text.proofs.read_utf.Goals as goal

-- This crate returns `Invalid` exactly when the decoder does, so what the decoder promises for
-- `Invalid` holds here too.
invalid_as : (fault : DecodeFault) (bytes : List ℕ) → decoding.IfInvalid fault (HasNoStrictReading Mutf8 (counted bytes)) →
    IfInvalid (read_fault_of fault) (HasNoStrictReading Mutf8 (counted bytes))
invalid_as (Invalid error) bytes invalid = invalid
invalid_as (Memory error) bytes memory = tt

pub returns-in_err-counted : goal.returns-in_err-counted
returns-in_err-counted c =
    let none = none_begins_truncated c.args.bytes.now c.in_err-counted.ensures.short in
    let fault = c.in_err-counted.ensures.truncated in
    search rules

pub returns-in_err-text : goal.returns-in_err-text
returns-in_err-text c =
    let read = rw (counted_after_count c.args.bytes.now c.in_ok-counted.counted.now c.in_ok-counted.ensures.counted) at c.in_err-text.ensures in
    let none = none_begins_rejected c.in_err-text.field-0.0 c.args.bytes.now read.invalid in
    let invalid = invalid_as c.in_err-text.field-0.0 c.args.bytes.now read.invalid in
    search rules

pub returns : goal.returns
returns c =
    let read = rw (counted_after_count c.args.bytes.now c.in_ok-counted.counted.now c.in_ok-counted.ensures.counted) at c.in_ok-text.ensures in
    record {
      text = rw c.in_ok-counted.ensures.counted at c.in_ok-counted.ensures.form _ read.text;
      only = rw c.in_ok-counted.ensures.counted at c.in_ok-counted.ensures.only _ read.text;
      truncated = search rules;
      invalid = search rules;
      refused = search rules;
      borrowed = read.borrowed;
      borrowed_where = read.borrowed_where;
      succeeds = search rules;
      capacity = search rules;
    }
