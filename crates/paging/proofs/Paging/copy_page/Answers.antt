use Rattle.std.proofs.Common.{◌%◌, ◌∙◌, arith}
use Rattle.paging.specs.Tables.{byte_of, place}
use Rattle.paging.specs.Tables.Slot.{page}
use Rattle.paging.specs.Pages.{InUse}
use Rattle.paging.proofs.Filling.{sound_frame, frame_filled}
use Rattle.paging.proofs.Paging.copy_page.Goals as goal

pub copy_frame-requires : goal.copy_frame-requires
copy_frame-requires c =
    record {
      small = (c.frame-source.ensures.fits, c.frame-target.ensures.fits);
      within = (
        rw c.frame-source.ensures.value (c.requires.sound.usable (page c.args.from c.args.i) (c.requires.processes.0, c.requires.pages.0)).1,
        rw c.frame-target.ensures.value (c.requires.sound.usable (page c.args.to c.args.i) (c.requires.processes.1, c.requires.pages.1)).1,
      );
    }

pub returns : goal.returns
unfolding byte_of place
returns c =
    let g = c.args.self.now in
    let f = c.args.frames.now in
    let u : InUse g (page c.args.to c.args.i) = (c.requires.processes.1, c.requires.pages.1) in
    record {
      sound = sound_frame g f _ _ _ _ (byte_of f c.args.from) c.requires.sound u c.frame-target.ensures.value (omega arith) c.copy_frame.ensures.rest;
      filled = frame_filled g f _ _ _ _ (byte_of f c.args.from) c.requires.sound u c.frame-target.ensures.value (omega arith) c.copy_frame.ensures.rest
          (λ a d. c.copy_frame.ensures.here (a % 4096) (omega arith) ∙ rw (c.frame-source.ensures.value, d));
    }
